-- Slots: a band, the width of each bidder, and its bids for a start in the band. Slots are numbered from 1.
use Rattle.std.specs.Prelude.{ℕ, zero, suc, ◌-◌, List, [], slice_index_or, ℤ, pos}

-- a start and an amount
pub record SlotBid : Type 0 where
  pub start : ℕ
  pub amount : ℕ

pub record SlotBidder : Type 0 where
  pub name : List ℕ
  pub width : ℕ
  pub bids : List SlotBid

pub record SlotList : Type 0 where
  pub band : ℕ
  pub bidders : List SlotBidder

abbrev pub no_bid : SlotBid
no_bid = record { start = 0; amount = 0 }

abbrev pub no_bidder : SlotBidder
no_bidder = record { name = []; width = 0; bids = [] }

-- bidder j; bidders are numbered from 1
abbrev pub bidder_of : SlotList → ℕ → SlotBidder
bidder_of slots j = slice_index_or slots.bidders (j - 1) no_bidder

abbrev pub width_of : SlotList → ℕ → ℕ
width_of slots j = (bidder_of slots j).width

abbrev pub bids_of : SlotList → ℕ → List SlotBid
bids_of slots j = (bidder_of slots j).bids

-- bid i of bidder j; bids are numbered from 1, and number 0 is none
abbrev pub bid_of : SlotList → ℕ → ℕ → SlotBid
bid_of slots j zero = no_bid
bid_of slots j (suc i) = slice_index_or (bids_of slots j) i no_bid

-- what it is worth, and 0 at 0
abbrev pub amount_of : SlotList → ℕ → ℕ → ℤ
amount_of slots j i = pos (bid_of slots j i).amount
