use Rattle.std.proofs.Common.{inr, ◌≡◌, ◌<◌, None, length, sym, subst, arith}
use Rattle.slot_places.specs.Slots.{SlotList}
use Rattle.slot_places.specs.Fields.{bid_value}
use Rattle.slot_places.specs.Stages.{AddsPlace, with_bid, excess_of}
use Rattle.slot_places.proofs.Growth.{place_marks}
use Rattle.slot_places.proofs.Within.{grown}
use Rattle.slot_places.proofs.EntryLaws.{adds_next}
use Rattle.slot_places.proofs.read.entries.take_place.Goals as goal

pub add_place-requires-clause-kept : goal.add_place-requires-clause-kept
add_place-requires-clause-kept c =
    let slots = c.args.slots.now in
    let some : 0 < length slots.bidders = omega arith in
    let bid = bid_value c.in-Some.place in
    grown slots (with_bid slots bid) c.args.line.now c.bidders.ensures.kept.rules (inr (adds_next slots c.args.line.now bid some c.in-Some.ensures.found))
    (place_marks slots bid some)

pub returns-in_err-add_place-clause-memory : goal.returns-in_err-add_place-clause-memory
returns-in_err-add_place-clause-memory c = λ err.
    let slots = c.args.slots.now in
    let some : 0 < length slots.bidders = omega arith in
    let bid = bid_value c.in-Some.place in
    (with_bid slots bid, adds_next slots c.args.line.now bid some c.in-Some.ensures.found, place_marks slots bid some)

pub returns-clause-ok : goal.returns-clause-ok
returns-clause-ok c =
    let slots = c.args.slots.now in
    let some : 0 < length slots.bidders = omega arith in
    let bid = bid_value c.in-Some.place in
    subst (λ (s : SlotList). AddsPlace slots s c.args.line.now × (excess_of s ≡ None)) (sym c.in_ok-add_place.ensures)
    (adds_next slots c.args.line.now bid some c.in-Some.ensures.found, place_marks slots bid some)
