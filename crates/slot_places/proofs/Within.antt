-- What follows for slots from their form and the limits.
use Rattle.std.proofs.Common.{List, None, Option, [], ap, append_assoc, arith, get_or, length, refl, subst, suc, sym, take, zero, ℕ, ◌++◌, ◌+◌, ◌-◌}
use Rattle.std.proofs.Common.{◌<◌, ◌∙◌, ◌∷◌, ◌≡◌, ◌≢◌, ◌≤◌}
use Rattle.std.specs.Prelude.{codes}
use Rattle.std.specs.Option.{option_or}
use Rattle.std.specs.List.{AllByRecursion}
use Rattle.std.proofs.lemmas.Bool.Decides.{nat_tests}
use Rattle.std.proofs.lemmas.List.{append-nil, take_all, take_more, get_or-take, length-take-le}
use Rattle.line_format.specs.LineText.{first_excess}
use Rattle.line_format.proofs.Lines.{first_excess-append}
use Rattle.auction_model.specs.Lowered.{sum_to}
use Rattle.bid_book.proofs.SupplyLaws.{none_first}
use Rattle.bid_book.proofs.Within.{each_at, parts_none}
use Rattle.slot_places.specs.Slots.{SlotBid, SlotBidder, SlotList, no_bid, no_bidder, bids_of, bid_of, width_of}
use Rattle.book_grammar.specs.BookLines.{Excess}
use Rattle.slot_places.specs.SlotForm.{AreSlotBidders, AreSlotBids, AreSlotsWithinLimits, IsSlotBid, IsSlotBidder, band_excess, bidder_excess}
use Rattle.slot_places.specs.SlotForm.{bidder_line, bidder_lines, head_lines, place_lines, width_together}
use Rattle.slot_places.specs.Kept.{IsInBand, AreSlots}
use Rattle.slot_places.specs.Stages.{Adds, excess_of, last_start, opened}
use Rattle.slot_places.proofs.Growth.{listed, adds_one}
use Rattle.slot_places.proofs.EntryLaws.{few_lots}

band_few : (n : ℕ) → band_excess n ≡ None → n ≤ 40
band_few n none = grind (arith, nat_tests)

bidder_few : (n : ℕ) → bidder_excess n ≡ None → n ≤ 6
bidder_few n none = grind (arith, nat_tests)

bidders_few : (before : ℕ) (bs : List SlotBidder) → first_excess (bidder_lines before bs) ≡ None → before ≤ 6 → before + length bs ≤ 6
bidders_few before [] none few = omega (arith, few)
bidders_few before (b ∷ bs) none few =
    let parts = parts_none (bidder_line before b.name b.width ∷ place_lines b.bids) (bidder_lines (before + 1) bs) none in
    let here = bidder_few (before + 1) (none_first (bidder_excess (before + 1)) (first_excess (place_lines b.bids)) parts.0) in
    let rest = bidders_few (before + 1) bs parts.1 here in
    omega (arith, rest)

-- widths

together_push : (bs : List SlotBidder) (b : SlotBidder) → width_together (bs ++ b ∷ []) ≡ width_together bs + b.width
together_push [] b = omega arith
together_push (c ∷ bs) b = let rest = together_push bs b in omega (arith, rest)

widths_room : (band : ℕ) (earlier bs : List SlotBidder) → AreSlotBidders band earlier bs → width_together earlier ≤ band → width_together (earlier ++ bs) ≤ band
widths_room band earlier [] all low = subst (λ (l : List SlotBidder). width_together l ≤ band) (sym (append-nil earlier)) low
widths_room band earlier (b ∷ bs) all low =
    let room = all.0.room in
    let more = together_push earlier b in
    subst (λ (l : List SlotBidder). width_together l ≤ band) (append_assoc earlier (b ∷ []) bs)
    (widths_room band (earlier ++ b ∷ []) bs all.1 (omega (arith, room, more)))

sum_take : (slots : SlotList) (k : ℕ) → k ≤ length slots.bidders → sum_to (width_of slots) k ≡ width_together (take k slots.bidders)
sum_take slots zero low = refl
sum_take slots (suc k) low =
    let rest = sum_take slots k (omega (arith, low)) in
    let up : k + 1 ≡ suc k = omega arith in
    let down : suc k - 1 ≡ k = omega arith in
    let grown : take (suc k) slots.bidders ≡ take k slots.bidders ++ get_or slots.bidders k no_bidder ∷ [] =
    subst (λ n. take n slots.bidders ≡ take k slots.bidders ++ get_or slots.bidders k no_bidder ∷ []) up
    (take_more slots.bidders k no_bidder (omega (arith, low))) in
    let own : width_of slots (suc k) ≡ (get_or slots.bidders k no_bidder).width = ap (λ n. (get_or slots.bidders n no_bidder).width) down in
    let more = together_push (take k slots.bidders) (get_or slots.bidders k no_bidder) in
    let whole = ap width_together grown in
    omega (arith, rest, own, more, whole)

-- the widths of the bidders one by one
pub widths_are : (slots : SlotList) → sum_to (width_of slots) (length slots.bidders) ≡ width_together slots.bidders
widths_are slots = sum_take slots (length slots.bidders) (omega arith) ∙ ap width_together (take_all (length slots.bidders) slots.bidders (omega arith))

-- names

unused_at : (band : ℕ) (earlier bs : List SlotBidder) (k : ℕ) → AreSlotBidders band earlier bs → k < length bs
    → AllByRecursion (λ b. b.name ≢ (get_or bs k no_bidder).name) (earlier ++ take k bs)
unused_at band earlier [] k all inside = absurd (omega (arith, inside))
unused_at band earlier (b ∷ bs) zero all inside = subst (AllByRecursion (λ (x : SlotBidder). x.name ≢ b.name)) (sym (append-nil earlier)) all.0.unused
unused_at band earlier (b ∷ bs) (suc k) all inside =
    subst (AllByRecursion (λ (x : SlotBidder). x.name ≢ (get_or bs k no_bidder).name)) (append_assoc earlier (b ∷ []) (take k bs))
    (unused_at band (earlier ++ b ∷ []) bs k all.1 (omega (arith, inside)))

names_differ : (band : ℕ) (bs : List SlotBidder) (i k : ℕ) → AreSlotBidders band [] bs → i < k → k < length bs
    → (get_or bs i no_bidder).name ≢ (get_or bs k no_bidder).name
names_differ band bs i k all low inside =
    let unused = unused_at band [] bs k all inside in
    let count : length (take k bs) ≡ k = length-take-le k bs (omega (arith, inside)) in
    subst (λ (x : SlotBidder). x.name ≢ (get_or bs k no_bidder).name) (get_or-take k bs i no_bidder low)
    (each_at (λ (x : SlotBidder). x.name ≢ (get_or bs k no_bidder).name) (take k bs) i no_bidder unused (omega (arith, count, low)))

-- the bids of one bidder

bid_at : (band width before : ℕ) (bs : List SlotBid) (i : ℕ) → AreSlotBids band width before bs → i < length bs
    → IsSlotBid band width before (get_or bs i no_bid)
bid_at band width before [] i all inside = absurd (omega (arith, inside))
bid_at band width before (b ∷ bs) zero all inside = all.0
bid_at band width before (b ∷ bs) (suc i) all inside =
    let rest = bid_at band width b.start bs i all.1 (omega (arith, inside)) in
    let own = all.0.after in
    let later = rest.after in
    record { after = omega (arith, own, later); within = rest.within; top = rest.top }

bids_rise : (band width before : ℕ) (bs : List SlotBid) (i h : ℕ) → AreSlotBids band width before bs → i < h → h < length bs
    → (get_or bs i no_bid).start < (get_or bs h no_bid).start
bids_rise band width before [] i h all low inside = absurd (omega (arith, inside))
bids_rise band width before (b ∷ bs) i zero all low inside = absurd (omega (arith, low))
bids_rise band width before (b ∷ bs) zero (suc h) all low inside = (bid_at band width b.start bs h all.1 (omega (arith, inside))).after
bids_rise band width before (b ∷ bs) (suc i) (suc h) all low inside = bids_rise band width b.start bs i h all.1 (omega (arith, low)) (omega (arith, inside))

bids_few : (band width before : ℕ) (bs : List SlotBid) → AreSlotBids band width before bs → before + width ≤ band + 1 → before + length bs + width ≤ band + 1
bids_few band width before [] all low = omega (arith, low)
bids_few band width before (b ∷ bs) all low =
    let rest = bids_few band width b.start bs all.1 all.0.within in
    let own = all.0.after in
    omega (arith, rest, own)

last_bid : (before k : ℕ) (bs : List SlotBid) → suc k ≡ length bs → last_start before bs ≡ (get_or bs k no_bid).start
last_bid before k [] is = absurd (omega (arith, is))
last_bid before zero (b ∷ []) is = refl
last_bid before (suc k) (b ∷ []) is = absurd (omega (arith, is))
last_bid before zero (b ∷ c ∷ bs) is = absurd (omega (arith, is))
last_bid before (suc k) (b ∷ c ∷ bs) is = last_bid b.start k (c ∷ bs) (omega (arith, is))

-- the last bid of a bidder has the start that comes before the next
pub start_last : (slots : SlotList) (j i : ℕ) → i ≡ length (bids_of slots j) → 0 < i → last_start 0 (bids_of slots j) ≡ (bid_of slots j i).start
start_last slots j zero is some = absurd (omega (arith, some))
start_last slots j (suc i) is some = last_bid 0 i (bids_of slots j) is

bidder_kept : (band : ℕ) (earlier : List SlotBidder) (b : SlotBidder) → band ≤ 40 → IsSlotBidder band earlier b → IsInBand band b
bidder_kept band earlier b low is =
    let room = is.room in
    let width = is.width in
    let few = bids_few band b.width 0 b.bids is.bids (omega (arith, room)) in
    record {
      width = is.width;
      starts = λ i inside. let bid = bid_at band b.width 0 b.bids i is.bids inside in let after = bid.after in (omega (arith, after), bid.within);
      rising = λ i h less inside. bids_rise band b.width 0 b.bids i h is.bids less inside;
      few = omega (arith, few, width, low);
      amounts = λ i inside. (bid_at band b.width 0 b.bids i is.bids inside).top;
    }

all_kept : (band : ℕ) (earlier bs : List SlotBidder) → band ≤ 40 → AreSlotBidders band earlier bs → AllByRecursion (IsInBand band) bs
all_kept band earlier [] low all = tt
all_kept band earlier (b ∷ bs) low all = (bidder_kept band earlier b low all.0, all_kept band (earlier ++ b ∷ []) bs low all.1)

-- the facts that callers use follow from the form and the limits
pub kept_slots : (slots : SlotList) → AreSlotsWithinLimits slots → AreSlots slots
kept_slots slots is =
    let listed_none = (parts_none (listed slots) ((codes "end", None) ∷ []) is.limits).0 in
    let parts = parts_none (head_lines slots) (bidder_lines 0 slots.bidders) listed_none in
    let low = band_few slots.band (none_first (band_excess slots.band) None parts.0) in
    let few = bidders_few 0 slots.bidders parts.1 (omega arith) in
    let widths = widths_room slots.band [] slots.bidders is.form.bidders (omega arith) in
    let same = widths_are slots in
    record {
      rules = is;
      band = (is.form.band.0, low);
      few = omega (arith, few);
      widths = omega (arith, widths, same);
      names = λ j h some less inside. names_differ slots.band slots.bidders (j - 1) (h - 1) is.form.bidders (omega (arith, some, less))
          (omega (arith, some, less, inside));
      bidders = λ j some inside. each_at (IsInBand slots.band) slots.bidders (j - 1) no_bidder (all_kept slots.band [] slots.bidders low is.form.bidders)
          (omega (arith, some, inside));
    }

-- a line more that exceeds nothing
pub grown : (old new : SlotList) (line : List ℕ) → AreSlotsWithinLimits old → Adds old new line → excess_of new ≡ None → AreSlotsWithinLimits new
grown old new line is adds none =
    let both = adds_one old new line is.form adds in
    let before = (parts_none (listed old) ((codes "end", None) ∷ []) is.limits).0 in
    let here : first_excess (listed new) ≡ None =
    ap first_excess both.1 ∙ first_excess-append (listed old) ((line, excess_of new) ∷ [])
    ∙ ap (λ (o : Option Excess). option_or o (option_or (excess_of new) None)) before ∙ ap (λ (o : Option Excess). option_or o None) none in
    record { form = both.0; limits = first_excess-append (listed new) ((codes "end", None) ∷ []) ∙ ap (λ (o : Option Excess). option_or o None) here }

-- the band before its first bidder
pub opened_within : (band : ℕ) → 1 ≤ band → band ≤ 40 → AreSlotsWithinLimits (opened band)
opened_within band some low = record {
  form = record { band = (some, omega (arith, low)); bidders = tt };
  limits =
      ap (λ (o : Option Excess). option_or o None) (few_lots band low);
}
