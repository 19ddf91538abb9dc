-- Sums over a set of members, one for each set bit.
use Rattle.far_num.specs.Pairs.{IsExactPair, IsInRange, far_at, near_at, pair_at, sum_of}
use Rattle.far_num.specs.declared.Far.{Far}
use Rattle.std.specs.Int.{bit_at}
use Rattle.std.specs.Prelude.{Err, List, Ok, Result, length, pos, ℕ, ℤ, ◌<◌, ◌≡◌, ◌≤◌}
use Rattle.wide_num.specs.Sums.{dot}
use Rattle.wide_num.specs.declared.Op.TheVariants.{Add}
use Rattle.wide_num.specs.declared.Wide.{Wide}

-- 1 if i is a member, and else 0
abbrev pub holds : ℕ → ℕ → ℤ
holds members i = pos (bit_at members i)

-- the sum of the members among the first n entries
abbrev pub members_sum : ℕ → List Far → ℕ → Far
members_sum members xs n = record { far = dot n (holds members) (far_at xs); near = dot n (holds members) (near_at xs) }

-- the sums of the members among the first 0, 1, .., n entries are in the range
abbrev pub StayInRange : ℕ → List Far → ℕ → Type 0
StayInRange members xs n = (i : ℕ) → i ≤ n → IsInRange (members_sum members xs i)

-- w is the first step that leaves the range: a member added to the sum of the members before it
pub record IsFirstStepOut (members : ℕ) (xs : List Far) (w : Wide) : Type 0 where
  pub member : ℕ
  pub within : member < length xs
  pub holds : bit_at members member ≡ 1
  pub before : StayInRange members xs member
  pub step : IsExactPair Add (members_sum members xs member) (pair_at xs member) (sum_of (members_sum members xs member) (pair_at xs member)) (Err w)

-- the sum of the members if all sums on the way are in the range, and else the first step that leaves it
abbrev pub IsMembersSum : ℕ → List Far → Result Far Wide → Type 0
IsMembersSum members xs (Ok z) = (z ≡ members_sum members xs (length xs)) × StayInRange members xs (length xs)
IsMembersSum members xs (Err w) = IsFirstStepOut members xs w
