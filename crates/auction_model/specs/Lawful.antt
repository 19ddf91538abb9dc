-- What every market keeps, whatever is sold in it.
use Rattle.std.specs.Prelude.{◌≡◌, ℕ, ◌-◌, ◌<◌, ◌≤◌, ◌^◌, IsTrue, List, length, replicate, slice_set, pos, ◌≤ℤ◌}
use Rattle.auction_model.specs.Market.{Market, number_of, worth_in}

pub record IsMarket (m : Market) : Type 0 where
  -- the number of a bidder has 16 bits
  pub few : m.bidders < 2 ^ 16
  -- an allowed choice has one number for each bidder
  pub lengths : (c : List ℕ) → IsTrue (m.allowed c) → length c ≡ m.bidders
  -- and each is the number of one of its bids, or 0
  pub numbers : (c : List ℕ) (j : ℕ) → IsTrue (m.allowed c) → 0 < j → j ≤ m.bidders → number_of c j ≤ m.bids j
  -- nobody has to win
  pub empty : IsTrue (m.allowed (replicate m.bidders 0))
  -- an allowed choice stays allowed when a bidder leaves it
  pub fewer : (c : List ℕ) (j : ℕ) → IsTrue (m.allowed c) → IsTrue (m.allowed (slice_set c (j - 1) 0))
  -- no bid is worth nothing
  pub none : (j : ℕ) → m.worth j 0 ≡ pos 0
  -- no bid of an allowed choice is worth less than nothing
  pub not_negative : (c : List ℕ) (j : ℕ) → IsTrue (m.allowed c) → 0 < j → j ≤ m.bidders → pos 0 ≤ℤ worth_in m c j
