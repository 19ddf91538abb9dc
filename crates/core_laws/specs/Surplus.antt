-- What each bidder gains at a point, and the sums that a search with these surpluses compares.
use Rattle.std.specs.Prelude.{◌≡◌, ℕ, suc, ◌<◌, ◌≤◌, IsFalse, List, [], ◌∷◌, length, ℤ, pos, ◌-ℤ◌, ◌*ℤ◌}
use Rattle.auction_model.specs.Market.{Market, sum_after, uses, worth_in}
use Rattle.auction_model.specs.Lowered.{of_bidder, lowered}
use Rattle.auction_model.specs.Prices.{Point}

-- the surpluses of the bidders of a list, k bidders being passed
abbrev pub surpluses_after : Market → List ℕ → ℤ → ℕ → List ℤ → List ℤ
surpluses_after m z den k [] = []
surpluses_after m z den k (a ∷ at) = ((den *ℤ worth_in m z (suc k)) -ℤ a) ∷ surpluses_after m z den (suc k) at

-- the surplus of each bidder: den times what it wins with, less what it pays
abbrev pub surpluses_of : Market → List ℕ → ℤ → List ℤ → List ℤ
surpluses_of m z den at = surpluses_after m z den 0 at

-- what a choice counts when the worths are lowered by the surpluses of a point, times the denominator
abbrev pub lowered_sum : Market → List ℕ → Point → List ℕ → ℤ
lowered_sum m z p = sum_after (lowered p.den m.worth (surpluses_of m z p.den p.at)) 0

-- a point with a number for each bidder that asks nothing of losers
pub record AsksWinnersOnly (m : Market) (z : List ℕ) (p : Point) : Type 0 where
  pub bidders : length p.at ≡ m.bidders
  pub losers : (j : ℕ) → 0 < j → j ≤ m.bidders → IsFalse (uses z j) → of_bidder p.at j ≡ pos 0
