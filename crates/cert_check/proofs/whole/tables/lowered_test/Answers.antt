use Rattle.std.proofs.Common.{◌∙◌, ap, rules, subst, ℕ, ℤ}
use Rattle.std.proofs.lemmas.Int.{to_z-of_z}
use Rattle.auction_model.specs.Book.{menu_of}
use Rattle.auction_model.specs.Lowered.{of_bidder}
use Rattle.auction_model.specs.Menu.{without}
use Rattle.auction_model.specs.Prices.{everyone, sum_over}
use Rattle.table_check.specs.LineTests.{TableAt}
use Rattle.cert_check.specs.Places.{IsFirstFailing}
use Rattle.table_check.specs.Worths.{worth_with}
use Rattle.cert_check.proofs.LoweredLaws.{lowered-answer}
use mir.Val.{SFits, to_z, of_z}
use mir.Syntax.{w128}
use Rattle.cert_check.proofs.whole.tables.lowered_test.Goals as goal

pub invariant_of-offers : goal.invariant_of-offers
invariant_of-offers c =
    let den_fits : SFits w128 c.args.claim.now.den = search rules in
    record { sizes = rw (to_z-of_z w128 c.args.claim.now.den den_fits) c.put_gains.ensures.small }

pub returns : goal.returns
returns c = λ cert is pay_is table_is.
    let a = c.args.claim.now in
    let den_fits : SFits w128 c.args.claim.now.den = search rules in
    let paid_fits : SFits w128 c.sum_paid-paid.result = search rules in
    let paid = c.sum_paid-paid.ensures ∙ ap (λ (n : ℕ). sum_over everyone (of_bidder c.args.pay.now) n) c.requires.pay.0 in
    lowered-answer a cert c.args.pay.now c.put_gains.new.gains c.args.table.now (to_z w128 (of_z w128 c.sum_paid-paid.result)) c.table_test.result is pay_is
    table_is c.put_gains.ensures.gains (to_z-of_z w128 c.sum_paid-paid.result paid_fits ∙ paid)
    (subst (λ (z : ℤ). IsFirstFailing (TableAt (without (menu_of a.book.now) 0) (worth_with a.book.now z c.put_gains.new.gains) a.book.now.supply
    c.args.table.now (to_z w128 (of_z w128 c.sum_paid-paid.result))) c.table_test.result)
    (to_z-of_z w128 c.args.claim.now.den den_fits) c.table_test.ensures)
