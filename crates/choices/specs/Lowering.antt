-- The condition of a search with lowered worths.
use Rattle.std.specs.Prelude.{◌≡◌, ℕ, ◌<◌, ◌≤◌, ◌+◌, ◌*◌, ◌^◌, IsFalse, List, length, ℤ, pos, ◌≤ℤ◌, unsigned_abs}
use Rattle.auction_model.specs.Market.{Market, uses, value_of}
use Rattle.auction_model.specs.Lowered.{of_bidder, sum_to}

-- there is one surplus for each bidder, 0 for losers, and no lowered sum leaves the range; z is the winning choice
pub record CanLower (m : Market) (z : List ℕ) (den : ℤ) (surplus : List ℤ) : Type 0 where
  pub bidders : length surplus ≡ m.bidders
  pub losers : (j : ℕ) → 0 < j → j ≤ m.bidders → IsFalse (uses z j) → of_bidder surplus j ≡ pos 0
  pub den_positive : pos 1 ≤ℤ den
  pub range : m.bidders * unsigned_abs den * unsigned_abs (value_of m z) + sum_to (λ j. unsigned_abs (of_bidder surplus j)) m.bidders < 2 ^ 120
