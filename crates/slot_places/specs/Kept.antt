-- What slots keep.
use Rattle.std.specs.Prelude.{◌≢◌, ℕ, ◌+◌, ◌<◌, ◌≤◌, length, slice_index_or}
use Rattle.auction_model.specs.Lowered.{sum_to}
use Rattle.limits.specs.declared.TheConstants.{MOST_AMOUNT, MOST_LOTS, MOST_PLACED}
use Rattle.slot_places.specs.Slots.{SlotBidder, SlotList, no_bid, bidder_of, width_of}
use Rattle.slot_places.specs.SlotForm.{AreSlotsWithinLimits}

-- a bidder in a band: its starts rise within the band, so it has no more bids than there are slots
pub record IsInBand (band : ℕ) (b : SlotBidder) : Type 0 where
  pub width : 1 ≤ b.width
  pub starts : (i : ℕ) → i < length b.bids
      → (1 ≤ (slice_index_or b.bids i no_bid).start) × ((slice_index_or b.bids i no_bid).start + b.width ≤ band + 1)
  pub rising : (i h : ℕ) → i < h → h < length b.bids
      → (slice_index_or b.bids i no_bid).start < (slice_index_or b.bids h no_bid).start
  pub few : length b.bids ≤ MOST_LOTS
  pub amounts : (i : ℕ) → i < length b.bids → (slice_index_or b.bids i no_bid).amount ≤ MOST_AMOUNT

pub record AreSlots (slots : SlotList) : Type 0 where
  -- they have a text, and nothing in it exceeds a limit; the rest follows
  pub rules : AreSlotsWithinLimits slots
  pub band : (1 ≤ slots.band) × (slots.band ≤ MOST_LOTS)
  pub few : length slots.bidders ≤ MOST_PLACED
  pub widths : sum_to (width_of slots) (length slots.bidders) ≤ slots.band
  pub names : (j h : ℕ) → 0 < j → j < h → h ≤ length slots.bidders → (bidder_of slots j).name ≢ (bidder_of slots h).name
  pub bidders : (j : ℕ) → 0 < j → j ≤ length slots.bidders → IsInBand slots.band (bidder_of slots j)
