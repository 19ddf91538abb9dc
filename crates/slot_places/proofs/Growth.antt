-- What a line of slots adds: one bidder more, or one bid more of the last bidder.
use Rattle.std.proofs.Common.{List, None, Option, [], ap, append_assoc, arith, get_or, length, length-append, refl, set, subst, suc, sym, take, ℕ}
use Rattle.std.proofs.Common.{⊎_elim, ◌++◌, ◌+◌, ◌-◌, ◌<◌, ◌∙◌, ◌∷◌, ◌≡◌}
use Rattle.std.specs.Prelude.{codes}
use Rattle.std.proofs.lemmas.List.{append-nil, take_all, take_more, get_or_at, set_at}
use Rattle.slot_places.specs.Slots.{SlotBid, SlotBidder, SlotList, no_bidder, bidder_of}
use Rattle.book_grammar.specs.BookLines.{Excess, Line}
use Rattle.slot_places.specs.SlotForm.{AreSlotBidders, AreSlotBids, IsSlotBid, IsSlotBidder, IsSlotText, bidder_excess, bidder_line, bidder_lines}
use Rattle.slot_places.specs.SlotForm.{head_lines, place_line, place_lines}
use Rattle.slot_places.specs.Stages.{last_start, bidder_with, with_bidders, with_bid, AddsBidder, AddsPlace, Adds, bids_excess, last_excess, excess_of}

-- all lines of slots but the last
abbrev pub listed : SlotList → List Line
listed slots = head_lines slots ++ bidder_lines 0 slots.bidders

-- one more at the end

-- the lines of the bids with one more are those before and its line
pub place_lines-push : (bs : List SlotBid) (b : SlotBid) → place_lines (bs ++ b ∷ []) ≡ place_lines bs ++ place_line b ∷ []
place_lines-push [] b = refl
place_lines-push (c ∷ bs) b = ap (λ (l : List Line). place_line c ∷ l) (place_lines-push bs b)

-- the lines of the bidders with one more are those before and its lines
pub bidder_lines-push : (before : ℕ) (bs : List SlotBidder) (b : SlotBidder)
    → bidder_lines before (bs ++ b ∷ []) ≡ bidder_lines before bs ++ (bidder_line (before + length bs) b.name b.width ∷ place_lines b.bids)
bidder_lines-push before [] b = append-nil (bidder_line before b.name b.width ∷ place_lines b.bids) ∙ ap
    (λ (k : ℕ). bidder_line k b.name b.width ∷ place_lines b.bids) (omega arith)
bidder_lines-push before (c ∷ bs) b =
    let own = bidder_line before c.name c.width ∷ place_lines c.bids in
    ap (λ (l : List Line). own ++ l) (bidder_lines-push (before + 1) bs b ∙ ap (λ (k : ℕ). bidder_lines (before + 1) bs
    ++ (bidder_line k b.name b.width ∷ place_lines b.bids)) (omega arith))
    ∙ sym (append_assoc own (bidder_lines (before + 1) bs) (bidder_line (before + suc (length bs)) b.name b.width ∷ place_lines b.bids))

-- with a bidder more, what the last line exceeds is reported by that bidder
pub last_excess-push : (band before : ℕ) (bs : List SlotBidder) (b : SlotBidder) → last_excess band before (bs ++ b ∷ []) ≡ bids_excess
    (before + length bs + 1) b.bids
last_excess-push band before [] b = ap (λ (k : ℕ). bids_excess k b.bids) (omega arith)
last_excess-push band before (c ∷ []) b = ap (λ (k : ℕ). bids_excess k b.bids) (omega arith)
last_excess-push band before (c ∷ d ∷ bs) b = last_excess-push band (before + 1) (d ∷ bs) b ∙ ap (λ (k : ℕ). bids_excess k b.bids) (omega arith)

-- after a bid nothing is exceeded
pub bids_excess-push : (bidders : ℕ) (bs : List SlotBid) (b : SlotBid) → bids_excess bidders (bs ++ b ∷ []) ≡ None
bids_excess-push bidders [] b = refl
bids_excess-push bidders (c ∷ bs) b = refl

-- with a bid more, the last start is that of the bid
pub last_start-push : (before : ℕ) (bs : List SlotBid) (b : SlotBid) → last_start before (bs ++ b ∷ []) ≡ b.start
last_start-push before [] b = refl
last_start-push before (c ∷ bs) b = last_start-push c.start bs b

-- valid bids with one more that may follow them are valid
pub bids_push : (band width before : ℕ) (bs : List SlotBid) (b : SlotBid) → AreSlotBids band width before bs → IsSlotBid band width (last_start before bs) b
    → AreSlotBids band width before (bs ++ b ∷ [])
bids_push band width before [] b all is = (is, tt)
bids_push band width before (c ∷ bs) b all is = (all.0, bids_push band width c.start bs b all.1 is)

-- valid bidders with one more that may follow them are valid
pub bidders_push : (band : ℕ) (earlier bs : List SlotBidder) (b : SlotBidder) → AreSlotBidders band earlier bs → IsSlotBidder band (earlier ++ bs) b
    → AreSlotBidders band earlier (bs ++ b ∷ [])
bidders_push band earlier [] b all is = (subst (λ (e : List SlotBidder). IsSlotBidder band e b) (append-nil earlier) is, tt)
bidders_push band earlier (c ∷ bs) b all is = (
  all.0,
  bidders_push band (earlier ++ c ∷ []) bs b all.1 (subst (λ (e : List SlotBidder). IsSlotBidder band e b)
      (sym (append_assoc earlier (c ∷ []) bs)) is),
)

-- the last bidder, and those before it
pub bidders_last : (band : ℕ) (earlier bs : List SlotBidder) (b : SlotBidder) → AreSlotBidders band earlier (bs ++ b ∷ [])
    → AreSlotBidders band earlier bs × IsSlotBidder band (earlier ++ bs) b
bidders_last band earlier [] b all = (tt, subst (λ (e : List SlotBidder). IsSlotBidder band e b) (sym (append-nil earlier)) all.0)
bidders_last band earlier (c ∷ bs) b all =
    let rest = bidders_last band (earlier ++ c ∷ []) bs b all.1 in
    ((all.0, rest.0), subst (λ (e : List SlotBidder). IsSlotBidder band e b) (append_assoc earlier (c ∷ []) bs) rest.1)

-- what a line adds

-- slots with a bidder more have a text, and their lines are those before and the line that adds it
pub adds_bidder : (old new : SlotList) (line : List ℕ) → IsSlotText old → AddsBidder old new line
    → IsSlotText new × (listed new ≡ listed old ++ (line, excess_of new) ∷ [])
adds_bidder old new line valid adds =
    let bidder = bidder_with adds.name adds.width [] in
    let slots = with_bidders old (old.bidders ++ bidder ∷ []) in
    let e = adds.entrant in
    let spelled : line ≡ (bidder_line 0 adds.name adds.width).0 = adds.line_is ∙ ap (λ (l : List ℕ). codes "bidder " ++ l) e.spelled in
    let here : IsSlotText slots × (listed slots ≡ listed old ++ ((bidder_line 0 adds.name adds.width).0, excess_of slots) ∷ []) = (
      record {
        band = valid.band;
        bidders = bidders_push old.band [] old.bidders bidder valid.bidders
            (record { name = e.valid; unused = e.unused; width = e.some; room = e.room; bids = tt });
      },
      ap (λ (l : List Line). head_lines old ++ l) (bidder_lines-push 0 old.bidders bidder)
          ∙ sym (append_assoc (head_lines old) (bidder_lines 0 old.bidders) (bidder_line (0 + length old.bidders) adds.name adds.width ∷ []))
          ∙ ap (λ (m : Option Excess). listed old ++ ((bidder_line 0 adds.name adds.width).0, m) ∷ []) (sym (last_excess-push old.band 0 old.bidders bidder)),
    ) in
    subst (λ (s : SlotList). IsSlotText s × (listed s ≡ listed old ++ (line, excess_of s) ∷ [])) (sym adds.new_is)
    (subst (λ (l : List ℕ). IsSlotText slots × (listed slots ≡ listed old ++ (l, excess_of slots) ∷ [])) (sym spelled) here)

-- with a bid more of the last bidder
pub bid_added : (old : SlotList) (front : List SlotBidder) (bidder : SlotBidder) (bid : SlotBid) → old.bidders ≡ front ++ bidder ∷ [] → IsSlotText old
    → IsSlotBid old.band bidder.width (last_start 0 bidder.bids) bid
    → IsSlotText (with_bidders old (front ++ bidder_with bidder.name bidder.width (bidder.bids ++ bid ∷ []) ∷ []))
bid_added old front bidder bid last valid is =
    let parts = bidders_last old.band [] front bidder (subst (λ (bs : List SlotBidder). AreSlotBidders old.band [] bs) last valid.bidders) in
    let own = parts.1 in
    record {
      band = valid.band;
      bidders = bidders_push old.band [] front (bidder_with bidder.name bidder.width (bidder.bids ++ bid ∷ [])) parts.0
          (record {
            name = own.name;
            unused = own.unused;
            width = own.width;
            room = own.room;
            bids =
                bids_push old.band bidder.width 0 bidder.bids bid own.bids is;
          });
    }

-- the lines with a bid more of the last bidder are those before and the line of the bid
pub bid_behind : (band : ℕ) (head : List Line) (front : List SlotBidder) (bidder : SlotBidder) (bid : SlotBid)
    → head ++ bidder_lines 0 (front ++ bidder_with bidder.name bidder.width (bidder.bids ++ bid ∷ []) ∷ [])
    ≡ (head ++ bidder_lines 0 (front ++ bidder ∷ [])) ++ (
      (place_line bid).0,
      last_excess band 0
          (front ++ bidder_with bidder.name bidder.width (bidder.bids ++ bid ∷ []) ∷ []),
    ) ∷ []
bid_behind band head front bidder bid =
    let new = bidder_with bidder.name bidder.width (bidder.bids ++ bid ∷ []) in
    let own = bidder_line (0 + length front) bidder.name bidder.width ∷ place_lines bidder.bids in
    let line = place_line bid in
    let grown : bidder_line (0 + length front) bidder.name bidder.width ∷ place_lines (bidder.bids ++ bid ∷ []) ≡ own ++ line ∷ [] =
    ap (λ (l : List Line). bidder_line (0 + length front) bidder.name bidder.width ∷ l) (place_lines-push bidder.bids bid) in
    let mark : None ≡ last_excess band 0 (front ++ new ∷ []) = sym (last_excess-push band 0 front new
    ∙ bids_excess-push (0 + length front + 1) bidder.bids bid) in
    ap (λ (l : List Line). head ++ l) (bidder_lines-push 0 front new ∙ ap (λ (l : List Line). bidder_lines 0 front ++ l) grown
    ∙ sym (append_assoc (bidder_lines 0 front) own (line ∷ [])))
    ∙ sym (append_assoc head (bidder_lines 0 front ++ own) (line ∷ []))
    ∙ ap (λ (l : List Line). (head ++ l) ++ line ∷ []) (sym (bidder_lines-push 0 front bidder))
    ∙ ap (λ (m : Option Excess). (head ++ bidder_lines 0 (front ++ bidder ∷ [])) ++ ((place_line bid).0, m) ∷ []) mark

-- the last bidder, and those before it
pub record Parts (bidders : List SlotBidder) : Type 0 where
  pub front : List SlotBidder
  pub bidder : SlotBidder
  pub whole : bidders ≡ front ++ bidder ∷ []

-- if there are bidders, there is a last one
pub parts_of : (bidders : List SlotBidder) → 0 < length bidders → Parts bidders
parts_of bidders some =
    let all : take (length bidders - 1 + 1) bidders ≡ bidders = take_all (length bidders - 1 + 1) bidders (omega arith) in
    record {
      front = take (length bidders - 1) bidders;
      bidder = get_or bidders (length bidders - 1) no_bidder;
      whole =
          sym all ∙ take_more bidders (length bidders - 1) no_bidder (omega arith);
    }

last_place : (front : List SlotBidder) (bidder : SlotBidder) → length front ≡ length (front ++ bidder ∷ []) - 1
last_place front bidder = omega (arith, length-append front (bidder ∷ []))

-- the bidder after all others is the last by its number
pub last_of : (slots : SlotList) (front : List SlotBidder) (bidder : SlotBidder) → slots.bidders ≡ front ++ bidder ∷ []
    → bidder_of slots (length slots.bidders) ≡ bidder
last_of slots front bidder whole =
    ap (λ (bs : List SlotBidder). get_or bs (length bs - 1) no_bidder) whole ∙ get_or_at front bidder [] no_bidder (length (front ++ bidder ∷ []) - 1)
    (last_place front bidder)

-- slots with a bid more are those with a longer list of bids of the last bidder
pub with_last : (slots : SlotList) (front : List SlotBidder) (bidder : SlotBidder) (bid : SlotBid) → slots.bidders ≡ front ++ bidder ∷ []
    → with_bid slots bid ≡ with_bidders slots (front ++ bidder_with bidder.name bidder.width (bidder.bids ++ bid ∷ []) ∷ [])
with_last slots front bidder bid whole =
    let own = last_of slots front bidder whole in
    ap (λ (b : SlotBidder). with_bidders slots (set slots.bidders (length slots.bidders - 1) (bidder_with b.name b.width (b.bids ++ bid ∷ [])))) own
    ∙ ap (λ (bs : List SlotBidder). with_bidders slots (set bs (length bs - 1) (bidder_with bidder.name bidder.width (bidder.bids ++ bid ∷ [])))) whole
    ∙ ap (with_bidders slots) (set_at front bidder [] (bidder_with bidder.name bidder.width (bidder.bids ++ bid ∷ [])) (length (front ++ bidder ∷ []) - 1)
    (last_place front bidder))

-- slots with a bid more have a text, and their lines are those before and the line that adds it
pub adds_place : (old new : SlotList) (line : List ℕ) → IsSlotText old → AddsPlace old new line
    → IsSlotText new × (listed new ≡ listed old ++ (line, excess_of new) ∷ [])
adds_place old new line valid adds =
    let parts = parts_of old.bidders adds.some in
    let own : IsSlotBid old.band parts.bidder.width (last_start 0 parts.bidder.bids) adds.bid =
    subst (λ (b : SlotBidder). IsSlotBid old.band b.width (last_start 0 b.bids) adds.bid) (last_of old parts.front parts.bidder parts.whole) adds.next.valid in
    let slots = with_bidders old (parts.front ++ bidder_with parts.bidder.name parts.bidder.width (parts.bidder.bids ++ adds.bid ∷ []) ∷ []) in
    let here : IsSlotText slots × (listed slots ≡ listed old ++ ((place_line adds.bid).0, excess_of slots) ∷ []) = (
      bid_added old parts.front parts.bidder adds.bid parts.whole valid own,
      bid_behind old.band (head_lines old) parts.front parts.bidder adds.bid
          ∙ ap (λ (bs : List SlotBidder). (head_lines old ++ bidder_lines 0 bs) ++ ((place_line adds.bid).0, excess_of slots) ∷ []) (sym parts.whole),
    ) in
    subst (λ (s : SlotList). IsSlotText s × (listed s ≡ listed old ++ (line, excess_of s) ∷ []))
    (sym (adds.new_is ∙ with_last old parts.front parts.bidder adds.bid parts.whole))
    (subst (λ (l : List ℕ). IsSlotText slots × (listed slots ≡ listed old ++ (l, excess_of slots) ∷ [])) (sym adds.next.spelled) here)

-- slots with an entry more have a text, and their lines are those before and the line that adds it
pub adds_one : (old new : SlotList) (line : List ℕ) → IsSlotText old → Adds old new line
    → IsSlotText new × (listed new ≡ listed old ++ (line, excess_of new) ∷ [])
adds_one old new line valid adds = ⊎_elim (adds_bidder old new line valid) (adds_place old new line valid) adds

-- what a bid more, and a bidder more, exceed
pub place_marks : (old : SlotList) (bid : SlotBid) → 0 < length old.bidders → excess_of (with_bid old bid) ≡ None
place_marks old bid some =
    let parts = parts_of old.bidders some in
    ap excess_of (with_last old parts.front parts.bidder bid parts.whole)
    ∙ last_excess-push old.band 0 parts.front (bidder_with parts.bidder.name parts.bidder.width (parts.bidder.bids ++ bid ∷ []))
    ∙ bids_excess-push (0 + length parts.front + 1) parts.bidder.bids bid

-- a bidder more exceeds what that many bidders exceed
pub bidder_marks : (old : SlotList) (name : List ℕ) (width : ℕ) → excess_of (with_bidders old (old.bidders ++ bidder_with name width [] ∷ [])) ≡ bidder_excess
    (length old.bidders + 1)
bidder_marks old name width = last_excess-push old.band 0 old.bidders (bidder_with name width []) ∙ ap bidder_excess (omega arith)
