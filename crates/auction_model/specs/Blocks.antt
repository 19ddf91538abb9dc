-- Rows of winners: what a choice that doesn't use them asks of them, and the choice and the row of a pricing turn.
use Rattle.std.specs.Prelude.{◌≡◌, ℕ, ◌<◌, ◌≤◌, Bool, IsTrue, List, ℤ, ◌-ℤ◌, ◌*ℤ◌, ◌≤ℤ◌, ◌<ℤ◌, not, ◌&&◌}
use Rattle.auction_model.specs.Market.{Market, value_of, is_earlier, worth_in, uses}
use Rattle.auction_model.specs.Lowered.{of_bidder}
use Rattle.auction_model.specs.Prices.{Point, sum_over}

-- a set of winners that the choice f doesn't use
abbrev pub IsIdleSet : Market → List ℕ → List ℕ → (ℕ → Bool) → Type 0
IsIdleSet m z f members = (j : ℕ) → 0 < j → j ≤ m.bidders → IsTrue (members j) → IsTrue (uses z j && not (uses f j))

-- the bound that the choice f gives such a set: its value less what the winners outside the set win with
abbrev pub row_bound : Market → List ℕ → (ℕ → Bool) → List ℕ → ℤ
row_bound m z members f = value_of m f -ℤ sum_over (λ j. not (members j)) (worth_in m z) m.bidders

-- den times the value of f, less den times what the winners outside the set win with, less what the members of the set pay
abbrev pub excess_of : Market → List ℕ → Point → (ℕ → Bool) → List ℕ → ℤ
excess_of m z p members f =
    ((p.den *ℤ value_of m f) -ℤ sum_over (λ j. not (members j)) (λ j. p.den *ℤ worth_in m z j) m.bidders) -ℤ sum_over members (λ j. of_bidder p.at j) m.bidders

-- no choice has a greater excess over any such set
abbrev pub IsGreatestExcess : Market → List ℕ → Point → ℤ → Type 0
IsGreatestExcess m z p excess = (members : ℕ → Bool) (f : List ℕ) → IsTrue (m.allowed f) → IsIdleSet m z f members
    → excess_of m z p members f ≤ℤ excess

-- the block that a turn takes: the first choice that reaches the greatest excess, and the largest set that it does so with
pub record IsTakenBlock (m : Market) (z : List ℕ) (p : Point) (f : List ℕ) (members : ℕ → Bool) (excess : ℤ) : Type 0 where
  pub greatest : IsGreatestExcess m z p excess
  pub allowed : IsTrue (m.allowed f)
  pub idle : IsIdleSet m z f members
  pub reached : excess_of m z p members f ≡ excess
  pub first : (g : List ℕ) (others : ℕ → Bool) → IsTrue (m.allowed g) → IsIdleSet m z g others
      → IsTrue (is_earlier g f) → excess_of m z p others g <ℤ excess
  pub largest : (others : ℕ → Bool) → IsIdleSet m z f others → excess_of m z p others f ≡ excess → (j : ℕ) → 0 < j
      → j ≤ m.bidders → IsTrue (others j) → IsTrue (members j)
