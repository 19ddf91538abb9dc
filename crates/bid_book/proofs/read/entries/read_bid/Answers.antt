use Rattle.std.proofs.lemmas.Grind.{common_steps}
use Rattle.std.proofs.Common.{◌≡◌, ◌<◌, ◌≤◌, ℕ, Err, List, [], ◌∷◌, ◌++◌, length, sym, ap, ◌∙◌, subst, arith}
use Rattle.std.specs.Prelude.{IsTrue, pos, ◌-ℤ◌}
use Rattle.std.proofs.lemmas.Result.{err_from_is_err_and}
use Rattle.std.proofs.lemmas.Bool.Decides.{nat_tests}
use Rattle.auction_model.specs.Package.{ComesBefore, cost_of, is_within}
use Rattle.line_format.specs.Decimals.{decimals_text}
use Rattle.line_format.specs.declared.stop.LineStop.TheVariants.{Form}
use Rattle.bid_book.specs.Stages.{lots_before}
use Rattle.bid_book.specs.Stops.{AreNumbers}
use Rattle.bid_book.proofs.EntryLaws.{bid_numbers, bid_some, bid_read, numbers_last, net_is}
use Rattle.bid_book.proofs.read.entries.read_bid.Goals as goal

pub returns-in_err-numbers-clause-form : goal.returns-in_err-numbers-clause-form
returns-in_err-numbers-clause-form c = λ err bid spelled valid.
    let kept = c.supply-supply.ensures.kept.supply in
    let p = err_from_is_err_and c.from_residual.result c.from_residual.ensures.1 in
    let form : c.in_err-numbers.field-0.0 ≡ Form = cc (p.1, p.2, err) in
    c.in_err-numbers.ensures.form (ap Err form) (bid.lots ++ bid.amount ∷ []) (bid_numbers c.args.book.now.supply c.args.book.now.reserves
    (lots_before c.args.book.now) kept c.args.line.now bid spelled valid) spelled

pub returns-in_default-clause-form : goal.returns-in_default-clause-form
returns-in_default-clause-form c = λ err bid spelled valid.
    let kept = c.supply-supply.ensures.kept.supply in
    let stated = c.in_ok-numbers.ensures.ok in
    let some = bid_some c.args.book.now.supply c.args.book.now.reserves (lots_before c.args.book.now) kept c.args.line.now bid spelled valid
    c.in_ok-numbers.numbers.items stated.0 stated.1 in
    let long : 0 < c.in_ok-numbers.numbers.len = omega (arith, some, c.in_ok-numbers.numbers.ok.0) in
    let there = c.in_default.ensures.variant.1 long in cc there

pub returns-in_err-package-clause-form : goal.returns-in_err-package-clause-form
returns-in_err-package-clause-form c = λ err bid spelled valid.
    let kept = c.supply-supply.ensures.kept.supply in
    let stated = c.in_ok-numbers.ensures.ok in
    let read = bid_read c.args.book.now.supply c.args.book.now.reserves (lots_before c.args.book.now) kept c.args.line.now bid spelled valid
    c.in_ok-numbers.numbers.items stated.0 stated.1 c.pop.new.self.items c.in-Some.amount c.in-Some.ensures.items in
    let p = err_from_is_err_and c.from_residual-in_err-package.result c.from_residual-in_err-package.ensures.1 in
    let form : c.in_err-package.field-0.0 ≡ Form = cc (p.1, p.2, err) in
    let lots : c.deref.result.now ≡ bid.lots = c.deref.ensures.value ∙ read.lots in
    let wrong = rw (lots, c.supply-supply.ensures.supply) at (c.in_err-package.ensures.form (ap Err form)) in
    wrong valid.categories valid.within

pub returns-then-not-comes_next-clause-form : goal.returns-then-not-comes_next-clause-form
returns-then-not-comes_next-clause-form c = λ err bid spelled valid.
    let kept = c.supply-supply.ensures.kept.supply in
    let stated = c.in_ok-numbers.ensures.ok in
    let read = bid_read c.args.book.now.supply c.args.book.now.reserves (lots_before c.args.book.now) kept c.args.line.now bid spelled valid
    c.in_ok-numbers.numbers.items stated.0 stated.1 c.pop.new.self.items c.in-Some.amount c.in-Some.ensures.items in
    let lots : c.in_ok-package.package ≡ bid.lots = c.in_ok-package.ensures.ok.0 ∙ c.deref.ensures.value ∙ read.lots in
    let comes = c.comes_next.ensures.1 (subst (ComesBefore (lots_before c.args.book.now)) (sym lots) valid.after) in
    cc

pub returns-then-amount-reserve-clause-form : goal.returns-then-amount-reserve-clause-form
returns-then-amount-reserve-clause-form c = λ err bid spelled valid.
    let kept = c.supply-supply.ensures.kept.supply in
    let stated = c.in_ok-numbers.ensures.ok in
    let read = bid_read c.args.book.now.supply c.args.book.now.reserves (lots_before c.args.book.now) kept c.args.line.now bid spelled valid
    c.in_ok-numbers.numbers.items stated.0 stated.1 c.pop.new.self.items c.in-Some.amount c.in-Some.ensures.items in
    let lots : c.in_ok-package.package ≡ bid.lots = c.in_ok-package.ensures.ok.0 ∙ c.deref.ensures.value ∙ read.lots in
    let cost : c.cost-reserve.result ≡ cost_of c.args.book.now.reserves bid.lots = c.cost-reserve.ensures
    ∙ ap (λ (r : List ℕ). cost_of r c.in_ok-package.package) c.reserves.ensures ∙ ap (cost_of c.args.book.now.reserves) lots in
    omega (arith, valid.reserve, cost, read.amount_is)

pub returns-clause-ok : goal.returns-clause-ok
returns-clause-ok c =
    let kept = c.supply-supply.ensures.kept.supply in
    let stated = c.in_ok-numbers.ensures.ok in
    let made = c.in_ok-package.ensures.ok in
    let lots : c.in_ok-package.package ≡ c.pop.new.self.items = made.0 ∙ c.deref.ensures.value in
    let whole : c.in_ok-numbers.numbers.items ≡ c.in_ok-package.package ++ c.in-Some.amount ∷ [] = c.in-Some.ensures.items
    ∙ ap (λ (l : List ℕ). l ++ c.in-Some.amount ∷ []) (sym lots) in
    let top = numbers_last c.in_ok-package.package c.in-Some.amount (subst AreNumbers whole stated.0) in
    let cost : c.cost-reserve.result ≡ cost_of c.args.book.now.reserves c.in_ok-package.package = c.cost-reserve.ensures
    ∙ ap (λ (r : List ℕ). cost_of r c.in_ok-package.package) c.reserves.ensures in
    let low : c.cost-reserve.result ≤ c.in-Some.amount = omega arith in (
      stated.1 ∙ ap (λ (l : List ℕ). 98 ∷ 105 ∷ 100 ∷ decimals_text l) whole,
      record {
        categories = ap length made.0 ∙ made.1 ∙ ap length c.supply-supply.ensures.supply;
        within = subst (λ (l : List ℕ). IsTrue (is_within l c.args.book.now.supply)) (sym made.0)
            (subst (λ (s : List ℕ). IsTrue (is_within c.deref.result.now s)) c.supply-supply.ensures.supply made.2);
        after = c.comes_next.ensures.0 (grind (arith, nat_tests));
        reserve = omega (arith, cost);
        top = top;
      },
      net_is c.in-Some.amount c.cost-reserve.result top low ∙ ap (λ (n : ℕ). pos c.in-Some.amount -ℤ pos n) cost,
    )

pub cost-reserve-requires-clause-most : goal.cost-reserve-requires-clause-most
cost-reserve-requires-clause-most c = grind (arith, common_steps)
