-- The stages read the form of slots.
use Rattle.std.proofs.Common.{inl, inr, ◌≡◌, ℕ, ◌+◌, ◌≤◌, None, List, [], ◌∷◌, ◌++◌, length, refl, sym, ap, subst, ◌∙◌, arith, append_assoc, length-append}
use Rattle.std.specs.Prelude.{codes}
use Rattle.std.specs.Fmt.{decimal}
use Rattle.std.proofs.lemmas.List.{append-nil, take_at, take_all}
use Rattle.line_format.specs.Reading.{Runs}
use Rattle.line_format.proofs.Runs.{FrontOf, Reads, StepsBehind, StepsOnce, front_reached, runs_append}
use Rattle.slot_places.specs.Slots.{SlotBid, SlotBidder, SlotList}
use Rattle.book_grammar.specs.BookLines.{Line}
use Rattle.slot_places.specs.SlotForm.{AreSlotBidders, AreSlotBids, IsSlotBid, IsSlotBidder, IsSlotText, band_line, bidder_excess, bidder_line}
use Rattle.slot_places.specs.SlotForm.{bidder_lines, head_lines, place_line, place_lines, slot_lines}
use Rattle.slot_places.specs.declared.read.Stage.{Stage}
use Rattle.slot_places.specs.declared.read.Stage.TheVariants.{Start, Headed, Listing, Ended}
use Rattle.slot_places.specs.Stages.{last_start, bidder_with, with_bidders, opened, AddsPlace, Step, last_excess, excess}
use Rattle.slot_places.proofs.LineLaws.{slots_word, end_word, band_feeds, bidder_feeds, place_feeds, band_one, end_adds_none, new_one}
use Rattle.slot_places.proofs.Growth.{listed, last_excess-push, bids_excess-push, last_start-push, last_of, with_last, adds_one}

abbrev pub begin : Stage
begin = Start

abbrev pub finish : SlotList → Stage
finish slots = Ended slots

-- the lines that a stage has after it
abbrev pub behind : Stage → List Line
behind Start = []
behind Headed = (codes "slots 1", None) ∷ []
behind (Listing slots) = listed slots
behind (Ended slots) = slot_lines slots

abbrev pub IsSound : Stage → Type 0
IsSound Start = Unit {0}
IsSound Headed = Unit {0}
IsSound (Listing slots) = IsSlotText slots
IsSound (Ended slots) = IsSlotText slots

-- a step keeps a stage sound, and its line comes after the next stage
step_behind : StepsBehind IsSound Step excess behind
step_behind s t l = by_stage s
  where
    F : List Line → List ℕ → Stage → Type 0
    F before line u = IsSound u × (behind u ≡ before ++ (line, excess u) ∷ [])

    move : (before : List Line) (line : List ℕ) (u : Stage) → l ≡ line → t ≡ u → F before line u → F before l t
    move before line u line_is stage_is here = subst (λ (v : Stage). F before l v) (sym stage_is) (subst (λ (m : List ℕ). F before m u) (sym line_is) here)

    by_stage : (s : Stage) → IsSound s → Step s l t → F (behind s) l t
    by_stage Start sound step = move [] (codes "slots 1") Headed step.0 step.1 (tt, refl)
    by_stage Headed sound step = move ((codes "slots 1", None) ∷ []) (band_line step.0).0 (Listing (opened step.0)) step.1 step.3
        (record { band = step.2; bidders = tt }, refl)
    by_stage (Listing slots) sound (inl last) = move (listed slots) (codes "end") (Ended slots) last.0 last.1 (sound, refl)
    by_stage (Listing slots) sound (inr step) = move (listed slots) l (Listing step.0) refl step.2 (adds_one slots step.0 l sound step.1)
    by_stage (Ended slots) sound step = absurd step

one_slot : IsSlotText (opened 1)
one_slot = record { band = (omega arith, omega arith); bidders = tt }

front_of : (s : Stage) → IsSound s → FrontOf IsSlotText slot_lines (behind s)
front_of Start sound = record { value = opened 1; count = 0; valid = one_slot; same = refl }
front_of Headed sound = record { value = opened 1; count = 1; valid = one_slot; same = refl }
front_of (Listing slots) sound = record {
  value = slots;
  count = length (listed slots);
  valid = sound;
  same =
      take_at (listed slots) ((codes "end", None) ∷ []) _ refl;
}
front_of (Ended slots) sound = record {
  value = slots;
  count = length (slot_lines slots);
  valid = sound;
  same =
      take_all (length (slot_lines slots)) (slot_lines slots) (omega arith);
}

-- the stages go over the lines of slots

bid_added_line : (slots : SlotList) (front : List SlotBidder) (name : List ℕ) (width : ℕ) (had : List SlotBid) (b : SlotBid)
    → IsSlotBid slots.band width (last_start 0 had) b
    → AddsPlace (with_bidders slots (front ++ bidder_with name width had ∷ [])) (with_bidders slots (front ++ bidder_with name width (had ++ b ∷ []) ∷ []))
    (place_line b).0
bid_added_line slots front name width had b is =
    let old = with_bidders slots (front ++ bidder_with name width had ∷ []) in
    record {
      bid = b;
      some = omega (arith, length-append front (bidder_with name width had ∷ []));
      next = record {
        spelled = refl;
        valid = subst (λ (x : SlotBidder). IsSlotBid slots.band x.width (last_start 0 x.bids) b) (sym (last_of old front (bidder_with name width had) refl)) is;
      };
      new_is = sym (with_last old front (bidder_with name width had) b refl);
    }

bids_run : (slots : SlotList) (front : List SlotBidder) (name : List ℕ) (width : ℕ) (had bs : List SlotBid) → slots.band ≤ 999
    → AreSlotBids slots.band width (last_start 0 had) bs
    → Runs Step excess (Listing (with_bidders slots (front ++ bidder_with name width had ∷ []))) (place_lines bs)
    (Listing (with_bidders slots (front ++ bidder_with name width (had ++ bs) ∷ [])))
bids_run slots front name width had [] low all = ap (λ (r : List SlotBid). Listing (with_bidders slots (front ++ bidder_with name width r ∷ [])))
    (sym (append-nil had))
bids_run slots front name width had (b ∷ bs) low all =
    let rest = bids_run slots front name width (had ++ b ∷ []) bs low (subst (λ p. AreSlotBids slots.band width p bs) (sym (last_start-push 0 had b)) all.1) in
    let within = all.0.within in
    let mark : None ≡ last_excess slots.band 0 (front ++ bidder_with name width (had ++ b ∷ []) ∷ []) =
    sym (last_excess-push slots.band 0 front (bidder_with name width (had ++ b ∷ [])) ∙ bids_excess-push (0 + length front + 1) had b) in (
      Listing (with_bidders slots (front ++ bidder_with name width (had ++ b ∷ []) ∷ [])),
      place_feeds b (omega (arith, within, low)) all.0.top,
      inr (
        with_bidders slots (front ++ bidder_with name width (had ++ b ∷ []) ∷ []),
        inr (bid_added_line slots front name width had b all.0),
        refl,
      ),
      mark,
      subst (λ (r : List SlotBid). Runs Step excess (Listing (with_bidders slots (front ++ bidder_with name width (had ++ b ∷ []) ∷ []))) (place_lines bs)
          (Listing (with_bidders slots (front ++ bidder_with name width r ∷ [])))) (append_assoc had (b ∷ []) bs) rest,
    )

bidder_run : (slots : SlotList) (front : List SlotBidder) (b : SlotBidder) → slots.band ≤ 999 → IsSlotBidder slots.band front b
    → Runs Step excess (Listing (with_bidders slots front)) (bidder_line (length front) b.name b.width ∷ place_lines b.bids)
    (Listing (with_bidders slots (front ++ b ∷ [])))
bidder_run slots front b low is =
    let room = is.room in
    let mark : bidder_excess (length front + 1) ≡ last_excess slots.band 0 (front ++ bidder_with b.name b.width [] ∷ []) =
    ap bidder_excess (omega arith) ∙ sym (last_excess-push slots.band 0 front (bidder_with b.name b.width [])) in (
      Listing (with_bidders slots (front ++ bidder_with b.name b.width [] ∷ [])),
      bidder_feeds (length front) b.name b.width is.name (omega (arith, room, low)),
      inr (
        with_bidders slots (front ++ bidder_with b.name b.width [] ∷ []),
        inl (record {
          name = b.name;
          width = b.width;
          fields = b.name ++ 32 ∷ decimal b.width;
          line_is = refl;
          entrant = record { spelled = refl; valid = is.name; unused = is.unused; some = is.width; room = is.room };
          new_is = refl;
        }),
        refl,
      ),
      mark,
      bids_run slots front b.name b.width [] b.bids low is.bids,
    )

bidders_run : (slots : SlotList) (front bs : List SlotBidder) → slots.band ≤ 999 → AreSlotBidders slots.band front bs
    → Runs Step excess (Listing (with_bidders slots front)) (bidder_lines (length front) bs) (Listing (with_bidders slots (front ++ bs)))
bidders_run slots front [] low all = ap (λ (r : List SlotBidder). Listing (with_bidders slots r)) (sym (append-nil front))
bidders_run slots front (b ∷ bs) low all =
    let first = bidder_run slots front b low all.0 in
    let rest = bidders_run slots (front ++ b ∷ []) bs low all.1 in
    let moved : Runs Step excess (Listing (with_bidders slots (front ++ b ∷ []))) (bidder_lines (length front + 1) bs)
    (Listing (with_bidders slots (front ++ b ∷ bs))) =
    subst (λ (r : List SlotBidder). Runs Step excess (Listing (with_bidders slots (front ++ b ∷ []))) (bidder_lines (length front + 1) bs)
    (Listing (with_bidders slots r))) (append_assoc front (b ∷ []) bs)
    (subst (λ (k : ℕ). Runs Step excess (Listing (with_bidders slots (front ++ b ∷ []))) (bidder_lines k bs)
    (Listing (with_bidders slots ((front ++ b ∷ []) ++ bs)))) (length-append front (b ∷ [])) rest) in
    runs_append Step excess (Listing (with_bidders slots front)) (Listing (with_bidders slots (front ++ b ∷ [])))
    (Listing (with_bidders slots (front ++ b ∷ bs))) (bidder_line (length front) b.name b.width ∷ place_lines b.bids)
    (bidder_lines (length front + 1) bs) first moved

complete : (slots : SlotList) → IsSlotText slots → Runs Step excess begin (slot_lines slots) (finish slots)
complete slots valid =
    let free = opened slots.band in
    let head : Runs Step excess begin (head_lines slots) (Listing free) = (
      Headed,
      slots_word,
      (refl, refl),
      refl,
      (Listing free, band_feeds slots.band valid.band.1, (slots.band, refl, valid.band, refl), refl, refl),
    ) in
    let body = bidders_run slots [] slots.bidders valid.band.1 valid.bidders in
    let last : Runs Step excess (Listing slots) ((codes "end", None) ∷ []) (finish slots) = (finish slots, end_word, inl (refl, refl), refl, refl) in
    runs_append Step excess begin (Listing slots) (finish slots) (head_lines slots ++ bidder_lines 0 slots.bidders) ((codes "end", None) ∷ [])
    (runs_append Step excess begin (Listing free) (Listing slots) (head_lines slots) (bidder_lines 0 slots.bidders) head body) last

one_step : StepsOnce IsSound Step
one_step s t u l = by_stage s
  where
    by_stage : (s : Stage) → IsSound s → Step s l t → Step s l u → t ≡ u
    by_stage Start sound a b = a.1 ∙ sym b.1
    by_stage Headed sound a b = a.3 ∙ ap (λ n. Listing (opened n)) (band_one a.0 b.0 a.2.1 b.2.1 (sym a.1 ∙ b.1)) ∙ sym b.3
    by_stage (Listing slots) sound (inl a) (inl b) = a.1 ∙ sym b.1
    by_stage (Listing slots) sound (inl a) (inr b) = absurd (end_adds_none slots b.0 l a.0 b.1)
    by_stage (Listing slots) sound (inr a) (inl b) = absurd (end_adds_none slots a.0 l b.0 a.1)
    by_stage (Listing slots) sound (inr a) (inr b) = a.2 ∙ ap (λ (x : SlotList). Listing x) (new_one slots a.0 b.0 l sound.band.1 a.1 b.1) ∙ sym b.2
    by_stage (Ended slots) sound a b = absurd a

one_value : (v w : SlotList) → finish v ≡ finish w → v ≡ w
one_value v w is = cc

-- the stages read just the slots that have a text, line by line
pub reads : Reads IsSound Step excess begin finish IsSlotText slot_lines
reads = record {
  complete = complete;
  sound = front_reached IsSound Step excess behind IsSlotText slot_lines step_behind front_of begin tt refl;
  begins = tt;
  keeps = λ s t l sound step. (step_behind s t l sound step).0;
  one_step = one_step;
  closed = λ v l t step. step;
  one_value = one_value;
}
