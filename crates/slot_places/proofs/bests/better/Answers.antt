use Rattle.std.proofs.Common.{◌≡◌, ◌∙◌, true, false, length, sym, ap, rules}
use Rattle.auction_model.specs.Market.{is_earlier}
use Rattle.slot_places.specs.SetTable.{holds, sum_outside}
use Rattle.slot_places.specs.Steps.{searched, counted}
use Rattle.slot_places.proofs.BestLaws.{before-same, before-by_sums, before-by_order, before-by_rest}
use Rattle.slot_places.proofs.StepLaws.{fits-length}
use Rattle.slot_places.proofs.bests.better.Goals as goal

pub returns-then-next-best-clause-best : goal.returns-then-next-best-clause-best
returns-then-next-best-clause-best c = before-same (sum_outside (holds c.args.set) (counted c.args.search.now)) c.args.best.numbers.items

pub returns-then-next-best-clause-next : goal.returns-then-next-best-clause-next
returns-then-next-best-clause-next c =
    before-by_sums (sum_outside (holds c.args.set) (counted c.args.search.now)) c.args.best.numbers.items c.args.next.numbers.items c.args.best.sum
    c.args.next.sum c.requires.best.sum c.requires.next.sum (search rules)

pub returns-then-best-next-clause-best : goal.returns-then-best-next-clause-best
returns-then-best-next-clause-best c =
    before-by_sums (sum_outside (holds c.args.set) (counted c.args.search.now)) c.args.next.numbers.items c.args.best.numbers.items c.args.next.sum
    c.args.best.sum c.requires.next.sum c.requires.best.sum (search rules)

pub returns-then-best-next-clause-next : goal.returns-then-best-next-clause-next
returns-then-best-next-clause-next c = before-same (sum_outside (holds c.args.set) (counted c.args.search.now)) c.args.next.numbers.items

pub comes_first-requires : goal.comes_first-requires
comes_first-requires c =
    let b = searched c.args.search.now in
    let p = fits-length b (holds c.args.set) c.args.best.numbers.items c.requires.best.fits in
    let q = fits-length b (holds c.args.set) c.args.next.numbers.items c.requires.next.fits in
    ap length c.deref.ensures.value ∙ (q ∙ (sym p ∙ sym (ap length c.deref-2.ensures.value)))

pub returns-then-comes_first-clause-best : goal.returns-then-comes_first-clause-best
returns-then-comes_first-clause-best c =
    let t : is_earlier c.deref.result.now c.deref-2.result.now ≡ true = sym c.comes_first.ensures ∙ c.if-comes_first.true in
    before-by_order (sum_outside (holds c.args.set) (counted c.args.search.now)) c.args.next.numbers.items c.args.best.numbers.items c.args.next.sum
    c.args.best.sum c.requires.next.sum c.requires.best.sum (search rules) (rw (c.deref.ensures.value, c.deref-2.ensures.value) at t)

pub returns-then-comes_first-clause-next : goal.returns-then-comes_first-clause-next
returns-then-comes_first-clause-next c = before-same (sum_outside (holds c.args.set) (counted c.args.search.now)) c.args.next.numbers.items

pub returns-clause-best : goal.returns-clause-best
returns-clause-best c = before-same (sum_outside (holds c.args.set) (counted c.args.search.now)) c.args.best.numbers.items

pub returns-clause-next : goal.returns-clause-next
returns-clause-next c =
    let f : is_earlier c.deref.result.now c.deref-2.result.now ≡ false = sym c.comes_first.ensures ∙ c.if-comes_first.false in
    before-by_rest (sum_outside (holds c.args.set) (counted c.args.search.now)) c.args.best.numbers.items c.args.next.numbers.items c.args.best.sum
    c.args.next.sum c.requires.best.sum c.requires.next.sum (search rules) (rw (c.deref.ensures.value, c.deref-2.ensures.value) at f)
