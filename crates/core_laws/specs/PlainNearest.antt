-- The nearest of some points by the plain distance.
use Rattle.std.specs.Prelude.{◌≡◌, ℕ, ℤ, ◌*ℤ◌, ◌<ℤ◌}
use Rattle.auction_model.specs.Market.{Market}
use Rattle.auction_model.specs.Prices.{Point, SamePoint, paid}
use Rattle.core_laws.specs.Outcome.{distance}

-- of these points every other one of the same sum is farther from the prices v
abbrev pub IsPlainNearest : Market → (ℕ → ℤ) → (Point → Type 0) → Point → Type 0
IsPlainNearest m v Among p =
    (q : Point) → Among q → q.den *ℤ paid m p ≡ p.den *ℤ paid m q → (SamePoint m p q → ⊥)
    → ((q.den *ℤ q.den) *ℤ distance m v p) <ℤ ((p.den *ℤ p.den) *ℤ distance m v q)
