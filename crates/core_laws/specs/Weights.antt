-- The weights of the winners, and how many winners can be priced with them.
use Rattle.std.specs.Prelude.{◌≡◌, ℕ, zero, suc, ◌<◌, ◌≤◌, ◌⊎◌, List, [], ◌∷◌, length}
use Rattle.auction_model.specs.Market.{Market}
use Rattle.limits.specs.declared.TheConstants.{MOST_WEIGHTED_WINNERS, MOST_WINNERS}
use Rattle.auction_model.specs.Ones.{AreOnes}
use Rattle.auction_model.specs.Prices.{AreWeights}
use Rattle.core_laws.specs.Winners.{winners_in}

-- a weight for each bidder as a weight for each winner, in order
abbrev pub weights_in : List ℕ → List ℕ → List ℕ
weights_in [] ws = []
weights_in (zero ∷ z) [] = weights_in z []
weights_in (zero ∷ z) (w ∷ ws) = weights_in z ws
weights_in (suc i ∷ z) [] = 0 ∷ weights_in z []
weights_in (suc i ∷ z) (w ∷ ws) = w ∷ weights_in z ws

-- a weight for each bidder, and each weight of a winner is 1 to 20
pub record CanWeigh (m : Market) (z weights : List ℕ) : Type 0 where
  pub long : length weights ≡ m.bidders
  pub own : AreWeights (winners_in z) (weights_in z weights)

-- all winners weigh 1
abbrev pub WeighAlike : List ℕ → List ℕ → Type 0
WeighAlike z weights = AreOnes (winners_in z) (weights_in z weights)

-- no more winners than the limit (six), and no more than that by weights (four) if they don't all weigh 1
abbrev pub FewWin : List ℕ → List ℕ → Type 0
FewWin z weights = (winners_in z ≤ MOST_WINNERS) × (WeighAlike z weights ⊎ (winners_in z ≤ MOST_WEIGHTED_WINNERS))

-- more winners than one of these limits
abbrev pub ManyWin : List ℕ → List ℕ → Type 0
ManyWin z weights = (MOST_WINNERS < winners_in z)
    ⊎ ((MOST_WEIGHTED_WINNERS < winners_in z) × (WeighAlike z weights → ⊥))
