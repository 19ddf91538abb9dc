use Rattle.std.proofs.Common.{◌≡◌, true, [], Some, None, arith, rules}
use Rattle.cert_soundness.specs.Tests.{C5}
use Rattle.cert_check.specs.Fields.{cert_with}
use Rattle.cert_check.proofs.FieldLaws.{pays-of}
use Rattle.cert_check.proofs.PlaceTests.{before-next, fails-here, holds-everywhere}
use Rattle.cert_check.proofs.PlaceLaws.{past-C5}
use Rattle.cert_check.proofs.payments.payments_test.Goals as goal

pub loop-j-preserved : goal.loop-j-preserved
loop-j-preserved c =
    let passed : c.payment_holds.result ≡ true = search rules in
    before-next (C5 c.args.claim.now.book.now (cert_with c.args.claim.now [] c.args.pay.now [])) c.loop-j.j c.payment_holds.result c.loop-j.invariant
    c.payment_holds.ensures passed

pub returns-then-not-payment_holds : goal.returns-then-not-payment_holds
returns-then-not-payment_holds c = λ cert is pay_is.
    let a = c.args.claim.now in
    pays-of a.book.now a cert c.args.pay.now (Some c.loop-j.j) is pay_is
    (fails-here (C5 a.book.now (cert_with a [] c.args.pay.now [])) c.loop-j.j c.payment_holds.result c.loop-j.invariant c.payment_holds.ensures
    c.if-not-payment_holds.true)

pub returns : goal.returns
returns c = λ cert is pay_is.
    let a = c.args.claim.now in
    pays-of a.book.now a cert c.args.pay.now None is pay_is
    (holds-everywhere (C5 a.book.now (cert_with a [] c.args.pay.now [])) c.loop-j.j c.loop-j.invariant
    (λ place past. past-C5 a.book.now (cert_with a [] c.args.pay.now []) place (omega (arith, c.bidders.ensures.bidders))))
