-- Rows as bits over the winners: the rows of bidders that they stand for, and the choices that give them.
use Rattle.std.specs.Prelude.{◌≡◌, ℕ, ◌^◌, ◌<◌, IsTrue, List, ℤ, ◌*ℤ◌, ◌≤ℤ◌}
use Rattle.far_num.specs.Members.{holds}
use Rattle.far_num.specs.declared.Row.{Row}
use Rattle.wide_num.specs.Sums.{dot, nth}
use Rattle.auction_model.specs.Market.{Market}
use Rattle.auction_model.specs.Blocks.{IsIdleSet, row_bound}
use Rattle.auction_model.specs.PricingRun.{BidderRow}
use Rattle.core_laws.specs.Winners.{winners_in, has_member}

-- a row of bits as a row of bidders
abbrev pub row_in : List ℕ → Row → BidderRow
row_in z row = record { members = has_member z row.members; bound = row.bound }

-- the set isn't empty, and has no bit past the winners
abbrev pub HasWinners : List ℕ → ℕ → Type 0
HasWinners z bits = (0 < bits) × (bits < 2 ^ winners_in z)

-- the choice c uses no member of the row and determines its bound, and no choice leads to a greater bound
-- for this set
pub record IsGivenBy (m : Market) (z : List ℕ) (row : Row) (c : List ℕ) : Type 0 where
  pub members : HasWinners z row.members
  pub allowed : IsTrue (m.allowed c)
  pub idle : IsIdleSet m z c (has_member z row.members)
  pub given : row.bound ≡ row_bound m z (has_member z row.members) c
  pub greatest : (g : List ℕ) → IsTrue (m.allowed g) → IsIdleSet m z g (has_member z row.members)
      → row_bound m z (has_member z row.members) g ≤ℤ row.bound

-- a point with a number for each winner asks the row's bound of its members, or more
abbrev pub Meets : List ℕ → Row → ℤ → List ℤ → Type 0
Meets z row den at = (den *ℤ row.bound) ≤ℤ dot (winners_in z) (holds row.members) (nth at)
