-- The bids that a table over sets is tested for, and what it has to keep.
use Rattle.std.specs.Prelude.{◌≡◌, ℕ, ◌+◌, ◌-◌, ◌^◌, ◌<◌, ◌≤◌, IsTrue, IsFalse, List, length, ℤ, ◌+ℤ◌, ◌-ℤ◌, ◌*ℤ◌, ◌≤ℤ◌, unsigned_abs}
use Rattle.auction_model.specs.Lowered.{of_bidder}
use Rattle.auction_model.specs.Table.{entry_at}
use Rattle.slot_places.specs.Board.{Board, board_without}
use Rattle.slot_places.specs.SetTable.{holds}
use Rattle.slot_places.specs.Slots.{SlotList, amount_of}
use Rattle.placement_check.specs.PlaceTests.{ObeysSet}

-- den times an amount, less what its bidder gains
abbrev pub worth_with : SlotList → ℤ → List ℤ → ℕ → ℕ → ℤ
worth_with slots den gains j i = (den *ℤ amount_of slots j i) -ℤ of_bidder gains j

-- no bid that can be given after a set counts more than a number of the range, and each bidder has a gain of the range
pub record HasSmallWorths (slots : SlotList) (skip : ℕ) (den : ℤ) (gains : List ℤ) : Type 0 where
  pub count : length slots.bidders ≤ length gains
  pub bids : (bits j i : ℕ) → bits < 2 ^ length slots.bidders → 0 < j → j ≤ length slots.bidders
      → IsFalse (holds bits j) → 0 < i
      → i ≤ (board_without slots skip).bids j → IsTrue ((board_without slots skip).may (holds bits) j i)
      → unsigned_abs (den *ℤ amount_of slots j i) < 2 ^ 120
  pub gained : (j : ℕ) → 0 < j → j ≤ length slots.bidders → unsigned_abs (of_bidder gains j) < 2 ^ 120

-- what bid i of bidder j, which is outside a set, asks of the entry of the set
abbrev pub KeepsBid : Board → (ℕ → ℕ → ℤ) → List (List ℤ) → ℕ → ℕ → ℕ → Type 0
KeepsBid b worth table bits j i = IsTrue (b.may (holds bits) j i)
    → (worth j i +ℤ entry_at table 0 (bits + 2 ^ (j - 1))) ≤ℤ entry_at table 0 bits

-- what bidder j asks of the entry of a set, by its first `some` bids
pub record KeepsBidder (b : Board) (worth : ℕ → ℕ → ℤ) (table : List (List ℤ)) (bits j some : ℕ) : Type 0 where
  pub none : IsFalse (holds bits j) → entry_at table 0 (bits + 2 ^ (j - 1)) ≤ℤ entry_at table 0 bits
  pub bid : IsFalse (holds bits j) → (i : ℕ) → 0 < i → i ≤ some → KeepsBid b worth table bits j i

-- a whole table: the rules at each set, and after them what the entry of nobody may be at most
pub record SetTableAt (b : Board) (worth : ℕ → ℕ → ℤ) (table : List (List ℤ)) (most : ℤ) (place : ℕ) : Type 0 where
  pub rules : place < 2 ^ b.bidders → ObeysSet b worth table place
  pub top : place ≡ 2 ^ b.bidders → entry_at table 0 0 ≤ℤ most
