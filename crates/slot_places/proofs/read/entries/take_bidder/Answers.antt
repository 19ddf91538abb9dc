use Rattle.std.proofs.Common.{inl, ◌≡◌, ◌<◌, ◌++◌, ◌∷◌, [], List, ℕ, Some, None, length, refl, sym, ap, ◌∙◌, subst, arith}
use Rattle.std.specs.Prelude.{codes}
use Rattle.limits.specs.declared.LimitKind.TheVariants.{Bidders}
use Rattle.slot_places.specs.Slots.{SlotList}
use Rattle.slot_places.specs.SlotForm.{AreSlotsWithinLimits}
use Rattle.slot_places.specs.Stages.{AddsBidder, IsEntrant, bidder_with, with_bidders, excess_of}
use Rattle.slot_places.proofs.Growth.{bidder_marks}
use Rattle.slot_places.proofs.Within.{grown}
use Rattle.slot_places.proofs.EntryLaws.{many_bidders, few_bidders, adds_entrant}
use Rattle.bid_book.proofs.StopLaws.{one_limit}
use Rattle.slot_places.proofs.read.entries.take_bidder.Goals as goal

-- a bidder that may follow fewer than six leads on, within the limits
entrant_added : (slots : SlotList) (fields name : List ℕ) (width : ℕ) → IsEntrant slots fields name width → length slots.bidders < 6
    → (new : SlotList) × AddsBidder slots new (codes "bidder " ++ fields) × (excess_of new ≡ None)
entrant_added slots fields name width entrant few = (
  with_bidders slots (slots.bidders ++ bidder_with name width [] ∷ []),
  adds_entrant slots (codes "bidder " ++ fields) fields name width refl entrant,
  bidder_marks slots name width ∙ few_bidders (length slots.bidders) few,
)

pub returns-then-bidders-ge-MOST_PLACED-clause-limit : goal.returns-then-bidders-ge-MOST_PLACED-clause-limit
returns-then-bidders-ge-MOST_PLACED-clause-limit c = λ kind count err.
    let slots = c.args.slots.now in
    let over = bidder_marks slots c.in-Some.text.now c.in-Some.width ∙ many_bidders (length slots.bidders) (omega arith) in
    let told = one_limit (Bidders, 7) (kind, count) err in (
      with_bidders slots (slots.bidders ++ bidder_with c.in-Some.text.now c.in-Some.width [] ∷ []),
      adds_entrant slots (codes "bidder " ++ c.args.fields.now) c.args.fields.now c.in-Some.text.now c.in-Some.width refl c.in-Some.ensures.found,
      over ∙ ap Some told,
    )

pub add_bidder-requires : goal.add_bidder-requires
add_bidder-requires c =
    let slots = c.args.slots.now in
    let none = bidder_marks slots c.in-Some.text.now c.in-Some.width ∙ few_bidders (length slots.bidders) (omega arith) in
    subst (λ (n : List ℕ). AreSlotsWithinLimits (with_bidders slots (slots.bidders ++ bidder_with n c.in-Some.width [] ∷ []))) (sym c.in_ok-name.ensures)
    (grown slots (with_bidders slots (slots.bidders ++ bidder_with c.in-Some.text.now c.in-Some.width [] ∷ []))
    (codes "bidder " ++ c.args.fields.now) c.bidders.ensures.kept.rules
    (inl (adds_entrant slots (codes "bidder " ++ c.args.fields.now) c.args.fields.now c.in-Some.text.now c.in-Some.width refl c.in-Some.ensures.found)) none)

pub returns-in_err-name-clause-memory : goal.returns-in_err-name-clause-memory
returns-in_err-name-clause-memory c = λ err. entrant_added c.args.slots.now c.args.fields.now c.in-Some.text.now c.in-Some.width c.in-Some.ensures.found
    (omega arith)

pub returns-in_err-add_bidder-clause-memory : goal.returns-in_err-add_bidder-clause-memory
returns-in_err-add_bidder-clause-memory c = λ err. entrant_added c.args.slots.now c.args.fields.now c.in-Some.text.now c.in-Some.width
    c.in-Some.ensures.found (omega arith)

pub returns-clause-ok : goal.returns-clause-ok
returns-clause-ok c =
    let slots = c.args.slots.now in
    let none = bidder_marks slots c.in-Some.text.now c.in-Some.width ∙ few_bidders (length slots.bidders) (omega arith) in
    let new : c.add_bidder.new.self ≡ with_bidders slots (slots.bidders ++ bidder_with c.in-Some.text.now c.in-Some.width [] ∷ []) =
    c.in_ok-add_bidder.ensures ∙ ap (λ (n : List ℕ). with_bidders slots (slots.bidders ++ bidder_with n c.in-Some.width [] ∷ [])) c.in_ok-name.ensures in
    subst (λ (s : SlotList). AddsBidder slots s (codes "bidder " ++ c.args.fields.now) × (excess_of s ≡ None)) (sym new)
    (adds_entrant slots (codes "bidder " ++ c.args.fields.now) c.args.fields.now c.in-Some.text.now c.in-Some.width refl c.in-Some.ensures.found, none)
