-- The form of slots: which slots have a text, and its lines, each with the limit that it exceeds.
use Rattle.std.specs.Prelude.{◌≡◌, ◌≢◌, ℕ, ◌+◌, ◌≤◌, ◌<◌, Option, Some, None, List, [], ◌∷◌, ◌++◌, codes, nat_le, if◌then◌else◌}
use Rattle.std.specs.Fmt.{decimal}
use Rattle.std.specs.List.{AllByRecursion}
use Rattle.line_format.specs.LineText.{first_excess}
use Rattle.book_grammar.specs.BookForm.{IsName}
use Rattle.limits.specs.declared.LimitKind.TheVariants.{Bidders, Lots}
use Rattle.book_grammar.specs.BookLines.{Excess, Line}
use Rattle.limits.specs.declared.TheConstants.{MOST_AMOUNT, MOST_COUNT, MOST_LOTS, MOST_PLACED}
use Rattle.slot_places.specs.Slots.{SlotBid, SlotBidder, SlotList}

-- the width of these bidders side by side
abbrev pub width_together : List SlotBidder → ℕ
width_together [] = 0
width_together (b ∷ bs) = b.width + width_together bs

-- a bid that may follow one for the start before
pub record IsSlotBid (band width before : ℕ) (bid : SlotBid) : Type 0 where
  pub after : before < bid.start
  pub within : bid.start + width ≤ band + 1
  pub top : bid.amount ≤ MOST_AMOUNT

abbrev pub AreSlotBids : ℕ → ℕ → ℕ → List SlotBid → Type 0
AreSlotBids band width before [] = Unit {0}
AreSlotBids band width before (b ∷ bs) = IsSlotBid band width before b × AreSlotBids band width b.start bs

-- a bidder that may follow these: they and it are no wider than the band
pub record IsSlotBidder (band : ℕ) (earlier : List SlotBidder) (bidder : SlotBidder) : Type 0 where
  pub name : IsName bidder.name
  pub unused : AllByRecursion (λ b. b.name ≢ bidder.name) earlier
  pub width : 1 ≤ bidder.width
  pub room : width_together earlier + bidder.width ≤ band
  pub bids : AreSlotBids band bidder.width 0 bidder.bids

abbrev pub AreSlotBidders : ℕ → List SlotBidder → List SlotBidder → Type 0
AreSlotBidders band earlier [] = Unit {0}
AreSlotBidders band earlier (b ∷ bs) = IsSlotBidder band earlier b × AreSlotBidders band (earlier ++ b ∷ []) bs

pub record IsSlotText (slots : SlotList) : Type 0 where
  pub band : (1 ≤ slots.band) × (slots.band ≤ MOST_COUNT)
  pub bidders : AreSlotBidders slots.band [] slots.bidders

abbrev pub band_excess : ℕ → Option Excess
band_excess band = if nat_le band MOST_LOTS then None else Some (Lots, band)

abbrev pub bidder_excess : ℕ → Option Excess
bidder_excess count = if nat_le count MOST_PLACED then None else Some (Bidders, MOST_PLACED + 1)

abbrev pub band_line : ℕ → Line
band_line band = (codes "band " ++ decimal band, band_excess band)

-- the bidder after that many others
abbrev pub bidder_line : ℕ → List ℕ → ℕ → Line
bidder_line before name width = (codes "bidder " ++ (name ++ 32 ∷ decimal width), bidder_excess (before + 1))

abbrev pub place_line : SlotBid → Line
place_line b = (codes "place " ++ (decimal b.start ++ 32 ∷ decimal b.amount), None)

abbrev pub place_lines : List SlotBid → List Line
place_lines [] = []
place_lines (b ∷ bs) = place_line b ∷ place_lines bs

abbrev pub bidder_lines : ℕ → List SlotBidder → List Line
bidder_lines before [] = []
bidder_lines before (b ∷ bs) = (bidder_line before b.name b.width ∷ place_lines b.bids) ++ bidder_lines (before + 1) bs

abbrev pub head_lines : SlotList → List Line
head_lines slots = (codes "slots 1", None) ∷ band_line slots.band ∷ []

abbrev pub slot_lines : SlotList → List Line
slot_lines slots = head_lines slots ++ bidder_lines 0 slots.bidders ++ (codes "end", None) ∷ []

-- slots that have a text where nothing exceeds a limit
pub record AreSlotsWithinLimits (slots : SlotList) : Type 0 where
  pub form : IsSlotText slots
  pub limits : first_excess (slot_lines slots) ≡ None
