-- Bidders that are placed one after the other, if what a bidder can be given depends on the set of those before it.
use Rattle.std.specs.Prelude.{ℕ, zero, suc, ◌+◌, Bool, true, false, ◌&&◌, ◌||◌, not, ◌==◌, if◌then◌else◌, List, [], length}
use Rattle.auction_model.specs.Lowered.{sum_to}
use Rattle.auction_model.specs.Market.{Market, number_of}
use Rattle.auction_model.specs.Menu.{Menu, is_known_after}
use Rattle.slot_places.specs.Slots.{SlotList, width_of, bids_of, bid_of, amount_of}

-- A set of bidders is a test of their numbers.
pub record Board : Type 0 where
  pub bidders : ℕ
  -- how many bids each bidder has
  pub bids : ℕ → ℕ
  -- after the bidders of a set, the bidder can be given the number
  pub may : (ℕ → Bool) → ℕ → ℕ → Bool

abbrev pub nobody : ℕ → Bool
nobody j = false

-- the set with bidder j
abbrev pub joined : ℕ → (ℕ → Bool) → ℕ → Bool
joined j s i = (i == j) || s i

-- one of the bidders 1 to n passes
abbrev pub some_of : (ℕ → Bool) → ℕ → Bool
some_of p zero = false
some_of p (suc n) = some_of p n || p (suc n)

-- how many of the bidders 1 to n are outside a set
abbrev pub outside : (ℕ → Bool) → ℕ → ℕ
outside s n = sum_to (λ j. if s j then 0 else 1) n

-- the bidders with their bids
abbrev pub menu_of : Board → Menu
menu_of b = record { bidders = b.bidders; bids = b.bids; lots = λ j i. [] }

-- one number for each bidder, and each is the number of one of its bids or 0
abbrev pub is_known : Board → List ℕ → Bool
is_known b c = is_known_after (menu_of b) 0 c

-- after the bidders of a set, that many others can be placed in some order such that each can be given its number
abbrev pub can_place : Board → List ℕ → ℕ → (ℕ → Bool) → Bool
can_place b c zero s = true
can_place b c (suc left) s = some_of (λ j. not (s j) && (b.may s j (number_of c j) && can_place b c left (joined j s))) b.bidders

-- a known choice that lets all bidders be placed
abbrev pub is_placed : Board → List ℕ → Bool
is_placed b c = is_known b c && can_place b c b.bidders nobody

-- the first slot after the bidders of a set, which are laid side by side from slot 1 upwards
abbrev pub start_after : SlotList → (ℕ → Bool) → ℕ
start_after slots s = 1 + sum_to (λ j. if s j then width_of slots j else 0) (length slots.bidders)

-- none, or a bid for just that start
abbrev pub starts_at : SlotList → ℕ → ℕ → ℕ → Bool
starts_at slots start j zero = true
starts_at slots start j (suc i) = (bid_of slots j (suc i)).start == start

abbrev pub board_of : SlotList → Board
board_of slots = record {
  bidders = length slots.bidders;
  bids = λ j. length (bids_of slots j);
  may = λ s. starts_at slots (start_after slots s);
}

-- the board of the slots, but bidder `skipped` has no bids
abbrev pub board_without : SlotList → ℕ → Board
board_without slots skipped = record {
  bidders = length slots.bidders;
  bids = λ j. if j == skipped then 0 else length (bids_of slots j);
  may = λ s. starts_at slots (start_after slots s);
}

-- The market of slots: a choice is allowed when some order of all bidders places each bidder with a number other than 0 at the
-- start of this bid, and a bid is worth its amount. A bidder with 0 is placed too.
abbrev pub market_of_slots : SlotList → Market
market_of_slots slots = record {
  bidders = length slots.bidders;
  bids = λ j. length (bids_of slots j);
  allowed = is_placed (board_of slots);
  worth = amount_of slots;
}
