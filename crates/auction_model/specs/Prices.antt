-- Prices of a market at a choice z: blocking coalitions, core points, Vickrey prices, least sum, the nearest point with weights,
-- the core outcome. Payments are net of reserve. (Day and Cramton, Quadratic core-selecting payment rules for combinatorial
-- auctions, Operations Research 60, 2012, with the seller's value at reserve.)
use Rattle.std.specs.Prelude.{◌≡◌, ℕ, zero, suc, ◌-◌, ◌<◌, ◌≤◌, Bool, true, IsTrue, IsFalse, List, length, slice_index_or, ℤ, pos, ◌/◌, ◌+ℤ◌, ◌-ℤ◌, ◌*ℤ◌, ◌≤ℤ◌, ◌<ℤ◌, if◌then◌else◌, not, ◌&&◌}
use Rattle.auction_model.specs.Market.{Market, value_of, worth_in, uses}
use Rattle.auction_model.specs.Greatest.{IsGreatest, IsGreatestValue}
use Rattle.auction_model.specs.Lowered.{of_bidder}

-- a payment for each bidder, over one denominator
pub record Point : Type 0 where
  pub den : ℤ
  pub at : List ℤ

-- the sum over the bidders 1 to n that pass
abbrev pub sum_over : (ℕ → Bool) → (ℕ → ℤ) → ℕ → ℤ
sum_over passes f zero = pos 0
sum_over passes f (suc n) = sum_over passes f n +ℤ (if passes (suc n) then f (suc n) else pos 0)

abbrev pub everyone : ℕ → Bool
everyone j = true

-- the sum of all payments, times the denominator
abbrev pub paid : Market → Point → ℤ
paid m p = sum_over everyone (of_bidder p.at) m.bidders

-- the choice uses only members of the coalition k
abbrev pub UsesOnly : Market → (ℕ → Bool) → List ℕ → Type 0
UsesOnly m k f = (j : ℕ) → 0 < j → j ≤ m.bidders → IsTrue (uses f j) → IsTrue (k j)

-- What the coalition k can offer with the choice f, times the denominator: its value less what the members would keep at
-- the point.
abbrev pub offer : Market → List ℕ → Point → (ℕ → Bool) → List ℕ → ℤ
offer m z p k f = (p.den *ℤ value_of m f) -ℤ sum_over k (λ j. (p.den *ℤ worth_in m z j) -ℤ of_bidder p.at j) m.bidders

-- The coalition k blocks the point with the choice f: it offers more than all pay. It may have members that f doesn't use.
pub record IsBlocking (m : Market) (z : List ℕ) (p : Point) (k : ℕ → Bool) (f : List ℕ) : Type 0 where
  pub allowed : IsTrue (m.allowed f)
  pub within : UsesOnly m k f
  pub more : paid m p <ℤ offer m z p k f

-- no coalition offers more than all pay
abbrev pub IsUnblocked : Market → List ℕ → Point → Type 0
IsUnblocked m z p = (k : ℕ → Bool) (f : List ℕ) → IsTrue (m.allowed f) → UsesOnly m k f → offer m z p k f ≤ℤ paid m p

-- a core point: winners pay no more than they bid, losers nothing, and no coalition blocks
pub record IsCorePoint (m : Market) (z : List ℕ) (p : Point) : Type 0 where
  pub den_positive : pos 1 ≤ℤ p.den
  pub bidders : length p.at ≡ m.bidders
  pub winners : (j : ℕ) → 0 < j → j ≤ m.bidders → IsTrue (uses z j)
      → (pos 0 ≤ℤ of_bidder p.at j) × (of_bidder p.at j ≤ℤ (p.den *ℤ worth_in m z j))
  pub losers : (j : ℕ) → 0 < j → j ≤ m.bidders → IsFalse (uses z j) → of_bidder p.at j ≡ pos 0
  pub unblocked : IsUnblocked m z p

-- the allowed choices that don't use bidder j
abbrev pub allowed_without : Market → ℕ → List ℕ → Bool
allowed_without m j c = m.allowed c && not (uses c j)

-- v is the Vickrey price of bidder j: the greatest value without j, less what the others win with. It is 0 for a loser.
abbrev pub IsVickreyPrice : Market → List ℕ → ℕ → ℤ → Type 0
IsVickreyPrice m z j v =
    (IsTrue (uses z j) → IsGreatestValue (allowed_without m j) (value_of m) ((v +ℤ value_of m z) -ℤ worth_in m z j))
    × (IsFalse (uses z j) → v ≡ pos 0)

abbrev pub AreVickreyPrices : Market → List ℕ → (ℕ → ℤ) → Type 0
AreVickreyPrices m z v = (j : ℕ) → 0 < j → j ≤ m.bidders → IsVickreyPrice m z j (v j)

-- the fractions of both points are equal
abbrev pub SamePoint : Market → Point → Point → Type 0
SamePoint m p q = (j : ℕ) → 0 < j → j ≤ m.bidders → q.den *ℤ of_bidder p.at j ≡ p.den *ℤ of_bidder q.at j

-- of these points none has a smaller sum
abbrev pub HasLeastSum : Market → (Point → Type 0) → Point → Type 0
HasLeastSum m Among p = (q : Point) → Among q → (q.den *ℤ paid m p) ≤ℤ (p.den *ℤ paid m q)

-- one weight of 1 to 20 for each of n bidders
pub record AreWeights (n : ℕ) (weights : List ℕ) : Type 0 where
  pub long : length weights ≡ n
  pub some : (k : ℕ) → k < n → 1 ≤ slice_index_or weights k 0
  pub most : (k : ℕ) → k < n → slice_index_or weights k 0 ≤ 20

-- the weight of bidder j in a list with one weight for each bidder
abbrev pub weight_of : List ℕ → ℕ → ℕ
weight_of weights j = slice_index_or weights (j - 1) 0

-- all bidders weigh 1
abbrev pub alike : ℕ → ℕ
alike j = 1

-- one part in as many as the weight says, of the least number that 1 to 20 all divide
abbrev pub share : ℕ → ℤ
share weight = pos (232792560 / weight)

-- The square of the distance from the prices v, with the square of each bidder divided by its weight; times the square of the
-- denominator, and times 232,792,560, so that it is whole.
abbrev pub square_distance : Market → (ℕ → ℕ) → (ℕ → ℤ) → Point → ℤ
square_distance m w v p = sum_over everyone (λ j. let off = of_bidder p.at j -ℤ (p.den *ℤ v j) in share (w j) *ℤ (off *ℤ off)) m.bidders

-- of these points every other one of the same sum is farther from the prices v
abbrev pub IsNearestTo : Market → (ℕ → ℕ) → (ℕ → ℤ) → (Point → Type 0) → Point → Type 0
IsNearestTo m w v Among p =
    (q : Point) → Among q → q.den *ℤ paid m p ≡ p.den *ℤ paid m q → (SamePoint m p q → ⊥)
    → ((q.den *ℤ q.den) *ℤ square_distance m w v p) <ℤ ((p.den *ℤ p.den) *ℤ square_distance m w v q)

-- no core point has a smaller sum
abbrev pub IsLeastSum : Market → List ℕ → Point → Type 0
IsLeastSum m z p = HasLeastSum m (IsCorePoint m z) p

-- every other core point of the same sum is farther from the Vickrey prices v
abbrev pub IsNearest : Market → (ℕ → ℕ) → List ℕ → (ℕ → ℤ) → Point → Type 0
IsNearest m w z v p = IsNearestTo m w v (IsCorePoint m z) p

-- the outcome that the quadratic core-selecting rule asks for, with these weights
pub record IsCoreOutcome (m : Market) (w : ℕ → ℕ) (z : List ℕ) (p : Point) : Type 0 where
  pub greatest : IsGreatest m.allowed (value_of m) z
  pub core : IsCorePoint m z p
  pub least : IsLeastSum m z p
  pub nearest : (v : ℕ → ℤ) → AreVickreyPrices m z v → IsNearest m w z v p
