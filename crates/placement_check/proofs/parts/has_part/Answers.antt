use Rattle.std.proofs.Common.{◌∙◌, ◌<◌, ◌≤◌, ap, subst, List, get_or, length, arith}
use Rattle.std.proofs.lemmas.List.{drop_all}
use Rattle.placement_cert.specs.Parts.{part_order, part_value}
use Rattle.placement_cert.specs.declared.certificate.PlaceWithout.{PlaceWithout}
use Rattle.placement_check.proofs.PartLaws.{HasForm, part-form, found-part, found-order, from-next, from-start, no-part, part-by}
use Rattle.placement_check.proofs.SetTests.{never}
use Rattle.placement_check.proofs.parts.has_part.Goals as goal
use Rattle.placement_check.proofs.parts.has_part.Goals.{Then-part-j}

form : (c : Then-part-j) → HasForm (length c.args.slots.now.bidders) c.part-item.result
form c = part-form c.args.slots.now c.args.cert.now c.requires.shape c.items-part-items.result.now c.loop-part.part-index c.part-item.result
    c.items-part-items.ensures c.loop-part-test.true c.part-item.is

pub loop-part-init : goal.loop-part-init
loop-part-init c = from-start c.args.cert.now.withouts c.args.j

pub shows_best-requires-clause-choice : goal.shows_best-requires-clause-choice
shows_best-requires-clause-choice c = (form c).choice

pub shows_best-requires-clause-table : goal.shows_best-requires-clause-table
shows_best-requires-clause-table c = (form c).table

pub returns-then-part-j : goal.returns-then-part-j
returns-then-part-j c =
    let same = c.items-part-items.ensures in
    let lt : c.loop-part.part-index < length c.args.cert.now.withouts = subst (λ (l : List PlaceWithout). c.loop-part.part-index < length l) same
    c.loop-part-test.true in
    let is = c.part-item.is ∙ ap (λ (l : List PlaceWithout). get_or l c.loop-part.part-index c.part-item.result) same in
    let part = found-part c.args.cert.now.withouts c.loop-part.part-index c.args.j c.part-item.result lt is c.loop-part.invariant c.if-part-j.true in
    let order = found-order c.args.cert.now.withouts c.loop-part.part-index c.args.j c.part-item.result lt is c.loop-part.invariant c.if-part-j.true in
    part-by c.args.slots.now c.args.j c.shows_best.result _ (part_value c.part-item.result) _ (part_order c.part-item.result) part order c.shows_best.ensures

pub loop-part-preserved : goal.loop-part-preserved
loop-part-preserved c =
    let same = c.items-part-items.ensures in
    let lt : c.loop-part.part-index < length c.args.cert.now.withouts = subst (λ (l : List PlaceWithout). c.loop-part.part-index < length l) same
    c.loop-part-test.true in
    let is = c.part-item.is ∙ ap (λ (l : List PlaceWithout). get_or l c.loop-part.part-index c.part-item.result) same in
    from-next c.args.cert.now.withouts c.loop-part.part-index c.args.j c.part-item.result lt is c.loop-part.invariant c.if-part-j.false

pub returns : goal.returns
returns c =
    let all : length c.args.cert.now.withouts ≤ c.loop-part.part-index = omega (
      arith,
      ap (λ (l : List PlaceWithout). length l) c.items-part-items.ensures,
      c.loop-part-test.false,
    ) in
    never (no-part c.args.slots.now c.args.cert.now.withouts c.loop-part.part-index c.args.j c.requires.bidder.0 c.requires.bidder.1
    (drop_all c.loop-part.part-index c.args.cert.now.withouts all) c.loop-part.invariant)
