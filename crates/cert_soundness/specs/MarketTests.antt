-- The tests of a certificate that need only the market of an auction: the tests of payments, rows and multipliers. Like all
-- tests, each asks something at each of its places and nothing at any other number.
use Rattle.std.specs.Prelude.{◌≡◌, ℕ, zero, suc, ◌+◌, ◌<◌, ◌≤◌, IsTrue, IsFalse, not, List, length, ℤ, pos, ◌+ℤ◌, ◌-ℤ◌, ◌*ℤ◌, ◌≤ℤ◌, ◌<ℤ◌, ◌⊎◌, if◌then◌else◌}
use Rattle.auction_model.specs.Market.{Market, number_of, uses, value_of, worth_in}
use Rattle.auction_model.specs.Lowered.{of_bidder}
use Rattle.auction_model.specs.Prices.{sum_over}
use Rattle.cert_grammar.specs.Certificate.{CertValue, RowValue, is_member, part_of, row_of}

-- what a winner's bid is worth, and 0 for a loser
abbrev pub won_in : Market → CertValue → ℕ → ℤ
won_in m c j = worth_in m c.choice j

-- a winner pays at least 0 and at most what its bid is worth, and a loser nothing
pub record PaysWithinBids (m : Market) (c : CertValue) (place : ℕ) : Type 0 where
  pub winner : 0 < place → place ≤ m.bidders → IsTrue (uses c.choice place)
      → (pos 0 ≤ℤ of_bidder c.pay place) × (of_bidder c.pay place ≤ℤ (c.den *ℤ won_in m c place))
  pub loser : 0 < place → place ≤ m.bidders → IsFalse (uses c.choice place) → of_bidder c.pay place ≡ pos 0

-- a row: its members win, its choice is known, fits and uses no member, and what its members pay is just what the choice asks of them
pub record IsTight (m : Market) (c : CertValue) (row : RowValue) : Type 0 where
  pub winners : (j : ℕ) → IsTrue (is_member row.members j) → IsTrue (uses c.choice j)
  pub allowed : IsTrue (m.allowed row.choice)
  pub unused : (j : ℕ) → IsTrue (is_member row.members j) → number_of row.choice j ≡ 0
  pub tight : sum_over (is_member row.members) (of_bidder c.pay) m.bidders
      ≡ c.den *ℤ (value_of m row.choice -ℤ sum_over (λ j. not (is_member row.members j)) (won_in m c) m.bidders)

-- each row is such a row
pub record HasTightRow (m : Market) (c : CertValue) (place : ℕ) : Type 0 where
  pub row : 0 < place → place ≤ length c.rows → IsTight m c (row_of c.rows place)

-- the sum of the numbers of those of rows 1 to n that contain bidder j
abbrev pub sum_holding : List RowValue → ℕ → (RowValue → ℤ) → ℕ → ℤ
sum_holding rows j number zero = pos 0
sum_holding rows j number (suc n) = sum_holding rows j number n +ℤ (if is_member (row_of rows (suc n)).members j then number (row_of rows (suc n)) else pos 0)

-- the first multipliers, at the places of the rows and then of the winners
pub record ShowsLeastSum (m : Market) (c : CertValue) (place : ℕ) : Type 0 where
  pub sign : 0 < place → place ≤ length c.rows → pos 0 ≤ℤ (row_of c.rows place).first
  pub columns : (j : ℕ) → 0 < j → j ≤ m.bidders → place ≡ length c.rows + j → IsTrue (uses c.choice j)
      → sum_holding c.rows j (λ row. row.first) (length c.rows) ≡ c.den

-- the Vickrey price of winner j by its part
abbrev pub vickrey_in : Market → CertValue → ℕ → ℤ
vickrey_in m c j = (value_of m (part_of c.withouts j).choice -ℤ c.value) +ℤ won_in m c j

-- the second multipliers, at the same places
pub record ShowsNearest (m : Market) (w : ℕ → ℕ) (c : CertValue) (place : ℕ) : Type 0 where
  pub sign : 0 < place → place ≤ length c.rows
      → (pos 0 <ℤ (row_of c.rows place).first) ⊎ (pos 0 ≤ℤ (row_of c.rows place).second)
  pub columns : (j : ℕ) → 0 < j → j ≤ m.bidders → place ≡ length c.rows + j → IsTrue (uses c.choice j)
      → of_bidder c.pay j -ℤ (c.den *ℤ vickrey_in m c j) ≡ pos (w j) *ℤ sum_holding c.rows j (λ row. row.second) (length c.rows)
