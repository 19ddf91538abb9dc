-- The stages of reading slots, and which lines bring the reader from one to the next. They serve the reader's own contracts.
-- The meaning of bytes as slots is defined without them.
use Rattle.std.specs.Prelude.{◌≡◌, ◌≢◌, ◌⊎◌, ℕ, ◌+◌, ◌-◌, ◌<◌, ◌≤◌, Option, None, List, [], ◌∷◌, ◌++◌, codes, length, slice_set}
use Rattle.std.specs.Fmt.{decimal}
use Rattle.std.specs.List.{AllByRecursion}
use Rattle.book_grammar.specs.BookForm.{IsName}
use Rattle.limits.specs.declared.TheConstants.{MOST_COUNT}
use Rattle.slot_places.specs.Slots.{SlotBid, SlotBidder, SlotList, bidder_of, bids_of, width_of}
use Rattle.book_grammar.specs.BookLines.{Excess}
use Rattle.slot_places.specs.SlotForm.{IsSlotBid, width_together, band_excess, bidder_excess, band_line, place_line}
use Rattle.slot_places.specs.declared.read.Stage.{Stage}
use Rattle.slot_places.specs.declared.read.Stage.TheVariants.{Start, Headed, Listing, Ended}

-- the start of the last bid, or the one before the first
abbrev pub last_start : ℕ → List SlotBid → ℕ
last_start before [] = before
last_start before (b ∷ bs) = last_start b.start bs

abbrev pub bidder_with : List ℕ → ℕ → List SlotBid → SlotBidder
bidder_with name width bids = record { name = name; width = width; bids = bids }

abbrev pub with_bidders : SlotList → List SlotBidder → SlotList
with_bidders slots bidders = record { band = slots.band; bidders = bidders }

-- the band before its first bidder
abbrev pub opened : ℕ → SlotList
opened band = record { band = band; bidders = [] }

-- these fields state a bidder that may follow the bidders of the slots
pub record IsEntrant (slots : SlotList) (fields name : List ℕ) (width : ℕ) : Type 0 where
  pub spelled : fields ≡ name ++ 32 ∷ decimal width
  pub valid : IsName name
  pub unused : AllByRecursion (λ b. b.name ≢ name) slots.bidders
  pub some : 1 ≤ width
  pub room : width_together slots.bidders + width ≤ slots.band

-- the line of a bidder: the slots with that bidder
pub record AddsBidder (old new : SlotList) (line : List ℕ) : Type 0 where
  pub name : List ℕ
  pub width : ℕ
  pub fields : List ℕ
  pub line_is : line ≡ codes "bidder " ++ fields
  pub entrant : IsEntrant old fields name width
  pub new_is : new ≡ with_bidders old (old.bidders ++ bidder_with name width [] ∷ [])

-- the bids of the last bidder, its width, and the start that comes before the next of them
abbrev pub last_bids : SlotList → List SlotBid
last_bids slots = bids_of slots (length slots.bidders)

abbrev pub last_width : SlotList → ℕ
last_width slots = width_of slots (length slots.bidders)

abbrev pub start_before : SlotList → ℕ
start_before slots = last_start 0 (last_bids slots)

-- the slots with a bid more of the last bidder
abbrev pub with_bid : SlotList → SlotBid → SlotList
with_bid slots bid =
    let bidder = bidder_with (bidder_of slots (length slots.bidders)).name (last_width slots) (last_bids slots ++ bid ∷ []) in
    with_bidders slots (slice_set slots.bidders (length slots.bidders - 1) bidder)

-- this line states a bid that may follow the bids of the last bidder
pub record IsNextPlace (slots : SlotList) (line : List ℕ) (bid : SlotBid) : Type 0 where
  pub spelled : line ≡ (place_line bid).0
  pub valid : IsSlotBid slots.band (last_width slots) (start_before slots) bid

-- the line of a bid: the slots with that bid
pub record AddsPlace (old new : SlotList) (line : List ℕ) : Type 0 where
  pub bid : SlotBid
  pub some : 0 < length old.bidders
  pub next : IsNextPlace old line bid
  pub new_is : new ≡ with_bid old bid

abbrev pub Adds : SlotList → SlotList → List ℕ → Type 0
Adds old new line = AddsBidder old new line ⊎ AddsPlace old new line

abbrev pub Step : Stage → List ℕ → Stage → Type 0
Step Start line next = (line ≡ codes "slots 1") × (next ≡ Headed)
Step Headed line next = (band : ℕ) × (line ≡ (band_line band).0) × ((1 ≤ band) × (band ≤ MOST_COUNT))
    × (next ≡ Listing (opened band))
Step (Listing slots) line next = ((line ≡ codes "end") × (next ≡ Ended slots))
    ⊎ ((new : SlotList) × Adds slots new line × (next ≡ Listing new))
Step (Ended slots) line next = ⊥

abbrev pub bids_excess : ℕ → List SlotBid → Option Excess
bids_excess bidders [] = bidder_excess bidders
bids_excess bidders (b ∷ bs) = None

-- what the last line exceeds, by the last bidder, or by the band if there is none
abbrev pub last_excess : ℕ → ℕ → List SlotBidder → Option Excess
last_excess band before [] = band_excess band
last_excess band before (b ∷ []) = bids_excess (before + 1) b.bids
last_excess band before (b ∷ c ∷ bs) = last_excess band (before + 1) (c ∷ bs)

abbrev pub excess_of : SlotList → Option Excess
excess_of slots = last_excess slots.band 0 slots.bidders

-- what the line that led to the stage exceeds
abbrev pub excess : Stage → Option Excess
excess Start = None
excess Headed = None
excess (Listing slots) = excess_of slots
excess (Ended slots) = None
