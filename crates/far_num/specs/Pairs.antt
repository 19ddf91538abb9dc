-- Pairs `far * t + near`, and what an exact operation on them answers.
use Rattle.far_num.specs.declared.Far.{Far}
use Rattle.std.specs.Prelude.{Err, List, Ok, Result, pos, slice_index_or, ℕ, ℤ, ◌*ℤ◌, ◌+ℤ◌, ◌-ℤ◌, ◌≡◌, ◌⊎◌}
use Rattle.wide_num.specs.Range.{InRange, Leaves}
use Rattle.wide_num.specs.declared.Op.{Op}
use Rattle.wide_num.specs.declared.Wide.{Wide}

-- both parts are in the range
abbrev pub IsInRange : Far → Type 0
IsInRange a = InRange a.far × InRange a.near

abbrev pub sum_of : Far → Far → Far
sum_of a b = record { far = a.far +ℤ b.far; near = a.near +ℤ b.near }

abbrev pub difference_of : Far → Far → Far
difference_of a b = record { far = a.far -ℤ b.far; near = a.near -ℤ b.near }

abbrev pub multiple_of : Far → ℤ → Far
multiple_of a k = record { far = a.far *ℤ k; near = a.near *ℤ k }

-- the same number for both parts
abbrev pub both : ℤ → Far
both k = record { far = k; near = k }

-- the exact pair if both parts are in the range, and else the operation on the far parts or, if their result is in the range,
-- on the near parts
abbrev pub IsExactPair : Op → Far → Far → Far → Result Far Wide → Type 0
IsExactPair op a b exact (Ok z) = (z ≡ exact) × IsInRange exact
IsExactPair op a b exact (Err w) = Leaves w op a.far b.far exact.far
    ⊎ (InRange exact.far × Leaves w op a.near b.near exact.near)

-- the pair at a place of a list, and 0 past its end
abbrev pub pair_at : List Far → ℕ → Far
pair_at xs i = slice_index_or xs i (both (pos 0))

abbrev pub far_at : List Far → ℕ → ℤ
far_at xs i = (pair_at xs i).far

abbrev pub near_at : List Far → ℕ → ℤ
near_at xs i = (pair_at xs i).near
