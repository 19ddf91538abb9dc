use Rattle.std.proofs.Common.{◌≡◌, ◌<◌, ◌≤◌, false, length, sym, ap, ◌∙◌, subst, arith}
use Rattle.std.specs.Prelude.{nat_eq}
use Rattle.std.specs.List.{AllByRecursion, list_any}
use Rattle.std.proofs.lemmas.Bool.Decides.{nat_tests}
use Rattle.std.proofs.lemmas.Result.{IfOk-weaker}
use Rattle.bid_book.proofs.HeadLaws.{supply_read, none_zero, each_count, each_low}
use Rattle.bid_book.proofs.read.head.read_supply.Goals as goal

pub returns-then-is_empty-clause-form : goal.returns-then-is_empty-clause-form
returns-then-is_empty-clause-form c = λ err supply spelled offer.
    let numbers = c.in_ok-numbers.ensures.ok in
    let same = supply_read c.args.line.now c.in_ok-numbers.numbers.items supply numbers.0 numbers.1 spelled offer in
    let long : c.in_ok-numbers.numbers.len ≡ length c.in_ok-numbers.numbers.items = c.in_ok-numbers.numbers.ok.0 in
    let none : c.in_ok-numbers.numbers.len ≡ 0 = grind (arith, nat_tests) in
    omega (arith, offer.some, ap length same)

pub returns-then-contains-clause-form : goal.returns-then-contains-clause-form
returns-then-contains-clause-form c = λ err supply spelled offer.
    let numbers = c.in_ok-numbers.ensures.ok in
    let same = supply_read c.args.line.now c.in_ok-numbers.numbers.items supply numbers.0 numbers.1 spelled offer in
    let none = none_zero supply offer.each in
    let value : c.contains.result ≡ list_any (λ n. nat_eq n 0) supply = c.contains.ensures.value ∙ ap (list_any (λ n. nat_eq n 0))
    (c.deref.ensures.value ∙ same) in
    cc

pub returns-clause-ok : goal.returns-clause-ok
returns-clause-ok c =
    let numbers = c.in_ok-numbers.ensures.ok in
    let same : c.deref-2.result.now ≡ c.in_ok-numbers.numbers.items = c.deref-2.ensures.value in
    let none : list_any (λ n. nat_eq n 0) c.in_ok-numbers.numbers.items ≡ false =
    sym (c.contains.ensures.value ∙ ap (list_any (λ n. nat_eq n 0)) c.deref.ensures.value) ∙ c.if-contains.false in
    let some : 0 < length c.in_ok-numbers.numbers.items = let long = c.in_ok-numbers.numbers.ok.0 in grind (arith, nat_tests) in
    IfOk-weaker c.lot_counts.result _ _
    (λ v ok. let is : v.items ≡ c.in_ok-numbers.numbers.items = ok.0 ∙ same in
    let low = rw same at ok.1 in
    rw is (numbers.1, record { some = some; each = each_count c.in_ok-numbers.numbers.items low none }))
    c.lot_counts.ensures.ok

pub returns-clause-form : goal.returns-clause-form
returns-clause-form c = λ err supply spelled offer.
    let numbers = c.in_ok-numbers.ensures.ok in
    let same = supply_read c.args.line.now c.in_ok-numbers.numbers.items supply numbers.0 numbers.1 spelled offer in
    c.lot_counts.ensures.form err (subst (AllByRecursion (λ n. n ≤ 999)) (sym (c.deref-2.ensures.value ∙ same)) (each_low supply offer.each))
