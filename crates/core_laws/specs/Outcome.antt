-- The outcome of an auction: who wins, and what the winners pay, net of reserve.
use Rattle.std.specs.Prelude.{◌≡◌, ℕ, List, ℤ, ◌-ℤ◌, ◌*ℤ◌, ◌<ℤ◌}
use Rattle.auction_model.specs.Greatest.{IsWinning}
use Rattle.auction_model.specs.Lowered.{of_bidder}
use Rattle.auction_model.specs.Market.{Market}
use Rattle.auction_model.specs.Prices.{AreVickreyPrices, IsCorePoint, IsLeastSum, Point, SamePoint, everyone, paid, sum_over}

-- the square of the distance of the point from the prices v, times the square of the denominator
abbrev pub distance : Market → (ℕ → ℤ) → Point → ℤ
distance m v p = sum_over everyone (λ j. (of_bidder p.at j -ℤ (p.den *ℤ v j)) *ℤ (of_bidder p.at j -ℤ (p.den *ℤ v j))) m.bidders

-- every other core point of the same sum is farther from the prices v
abbrev pub IsNearestInCore : Market → List ℕ → (ℕ → ℤ) → Point → Type 0
IsNearestInCore m z v p =
    (q : Point) → IsCorePoint m z q → q.den *ℤ paid m p ≡ p.den *ℤ paid m q → (SamePoint m p q → ⊥)
    → ((q.den *ℤ q.den) *ℤ distance m v p) <ℤ ((p.den *ℤ p.den) *ℤ distance m v q)

-- The winners are the first feasible choice of greatest net value, no coalition blocks the prices, their sum is least in the core, and
-- every other core point of that sum lies farther from the Vickrey point.
pub record IsAuctionOutcome (m : Market) (z : List ℕ) (p : Point) : Type 0 where
  pub winners : IsWinning m z
  pub core : IsCorePoint m z p
  pub least : IsLeastSum m z p
  pub nearest : (v : ℕ → ℤ) → AreVickreyPrices m z v → IsNearestInCore m z v p
