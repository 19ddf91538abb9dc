-- Weights of the distance: the shares are whole, and only the weights of bidders count.
use Rattle.std.specs.Prelude.{◌≡◌, ℕ, zero, suc, ◌≤◌, ◌<◌, List, refl, ℤ, pos, ◌+ℤ◌, ◌-ℤ◌, ◌*ℤ◌, ◌<ℤ◌}
use Rattle.std.proofs.Common.{ap, arith, subst}
use Rattle.std.proofs.lemmas.Int.{ints}
use Rattle.auction_model.specs.Market.{Market}
use Rattle.auction_model.specs.Lowered.{of_bidder}
use Rattle.auction_model.specs.Prices.{Point, sum_over, everyone, IsCoreOutcome, IsNearestTo, alike, share, square_distance}
use Rattle.auction_model.proofs.PriceLaws.{over-same}

over-scale : (f : ℕ → ℤ) (n : ℕ) → sum_over everyone (λ j. pos 232792560 *ℤ f j) n ≡ pos 232792560 *ℤ sum_over everyone f n
over-scale f zero = refl
over-scale f (suc n) = step (sum_over everyone (λ j. pos 232792560 *ℤ f j) n) (sum_over everyone f n) (f (suc n)) (over-scale f n)
  where
    step : (x y a : ℤ) → x ≡ pos 232792560 *ℤ y → x +ℤ pos 232792560 *ℤ a ≡ pos 232792560 *ℤ (y +ℤ a)
    step x y a e = omega (arith, ints, e)

-- with all weights 1 the distance is 232,792,560 times the plain sum of squares
pub plain-distance : (m : Market) (v : ℕ → ℤ) (p : Point)
    → square_distance m alike v p ≡ pos 232792560 *ℤ sum_over everyone (λ j. (of_bidder p.at j -ℤ (p.den *ℤ v j)) *ℤ (of_bidder p.at j -ℤ (p.den *ℤ v j)))
    m.bidders
plain-distance m v p = over-scale (λ j. (of_bidder p.at j -ℤ (p.den *ℤ v j)) *ℤ (of_bidder p.at j -ℤ (p.den *ℤ v j))) m.bidders

module _ (m : Market) (w y : ℕ → ℕ) (same : (j : ℕ) → 0 < j → j ≤ m.bidders → w j ≡ y j) where
  distance-same : (v : ℕ → ℤ) (p : Point) → square_distance m w v p ≡ square_distance m y v p
  distance-same v p =
      over-same everyone (λ j. share (w j) *ℤ ((of_bidder p.at j -ℤ (p.den *ℤ v j)) *ℤ (of_bidder p.at j -ℤ (p.den *ℤ v j))))
      (λ j. share (y j) *ℤ ((of_bidder p.at j -ℤ (p.den *ℤ v j)) *ℤ (of_bidder p.at j -ℤ (p.den *ℤ v j)))) m.bidders
      (λ j some inside. ap (λ n. share n *ℤ ((of_bidder p.at j -ℤ (p.den *ℤ v j)) *ℤ (of_bidder p.at j -ℤ (p.den *ℤ v j)))) (same j some inside))

  -- the nearest point is the same by weights that are equal for all bidders
  pub nearest-same : (v : ℕ → ℤ) (Among : Point → Type 0) (p : Point) → IsNearestTo m w v Among p → IsNearestTo m y v Among p
  nearest-same v Among p h q among sums apart =
      let less : ((q.den *ℤ q.den) *ℤ square_distance m w v p) <ℤ ((p.den *ℤ p.den) *ℤ square_distance m w v q) = h q among sums apart in
      subst (λ x. ((q.den *ℤ q.den) *ℤ x) <ℤ ((p.den *ℤ p.den) *ℤ square_distance m y v q)) (distance-same v p)
      (subst (λ x. ((q.den *ℤ q.den) *ℤ square_distance m w v p) <ℤ ((p.den *ℤ p.den) *ℤ x)) (distance-same v q) less)

-- a core outcome is one too by other weights that are equal for all bidders
pub outcome-weights : (m : Market) (w y : ℕ → ℕ) (z : List ℕ) (p : Point) → ((j : ℕ) → 0 < j → j ≤ m.bidders → w j ≡ y j) → IsCoreOutcome m w z p
    → IsCoreOutcome m y z p
outcome-weights m w y z p same h = record {
  greatest = h.greatest;
  core = h.core;
  least = h.least;
  nearest = λ v prices. nearest-same m w y same v _ p (h.nearest v prices);
}
