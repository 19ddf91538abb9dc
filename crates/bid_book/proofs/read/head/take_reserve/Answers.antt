use Rattle.std.proofs.lemmas.Grind.{elements}
use Rattle.std.proofs.Common.{◌≤◌, ◌^◌, length, sym, ap, ◌∙◌, subst, arith}
use Rattle.std.specs.List.{AllByRecursion}
use Rattle.bid_book.proofs.HeadLaws.{reserves_read}
use Rattle.bid_book.proofs.read.head.take_reserve.Goals as goal

pub returns-then-len-categories-clause-form : goal.returns-then-len-categories-clause-form
returns-then-len-categories-clause-form c = λ err t step.
    let numbers = c.in_ok-reserves.ensures.ok in
    let same = reserves_read c.args.line.now c.in_ok-reserves.reserves.items c.args.supply step.0 numbers.0 numbers.1 step.1 step.2 in
    c.if-len-categories.true (c.len.ensures ∙ c.in_ok-reserves.reserves.ok.0 ∙ ap length same ∙ step.2.count ∙ sym c.categories.ensures.count)

pub returns-then-not-are_reserves-clause-form : goal.returns-then-not-are_reserves-clause-form
returns-then-not-are_reserves-clause-form c = λ err t step.
    let numbers = c.in_ok-reserves.ensures.ok in
    let same = reserves_read c.args.line.now c.in_ok-reserves.reserves.items c.args.supply step.0 numbers.0 numbers.1 step.1 step.2 in
    let is = c.are_reserves.ensures.1 (subst (AllByRecursion (λ n. n ≤ 2 ^ 36)) (sym (c.deref.ensures.value ∙ same)) step.2.each) in
    cc

pub returns-in_err-reserves-clause-form : goal.returns-in_err-reserves-clause-form
returns-in_err-reserves-clause-form c = grind (arith, elements)
