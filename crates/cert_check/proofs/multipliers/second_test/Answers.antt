use Rattle.std.proofs.Common.{◌≡◌, ℕ, List, true, Some, None, subst, refl, arith, rules}
use Rattle.auction_model.specs.Prices.{weight_of}
use Rattle.cert_soundness.specs.Tests.{C8}
use Rattle.cert_check.specs.Fields.{cert_with, AreValuesWithout}
use Rattle.cert_check.proofs.FieldLaws.{second-of}
use Rattle.cert_check.proofs.PlaceTests.{before-next, fails-here, holds-everywhere}
use Rattle.cert_check.proofs.PlaceLaws.{past-C8}
use Rattle.cert_check.proofs.multipliers.second_test.Goals as goal

pub loop-place-preserved : goal.loop-place-preserved
loop-place-preserved c = λ withouts rows values firsts seconds sums.
    let passed : c.second_holds.result ≡ true = search rules in
    let a = c.args.claim.now in
    before-next (C8 a.book.now (weight_of c.args.weights.now) (cert_with a withouts c.args.pay.now rows)) c.loop-place.place c.second_holds.result
    (c.loop-place.invariant withouts rows values firsts seconds sums) (c.second_holds.ensures withouts rows values firsts seconds sums) passed

pub returns-then-not-second_holds : goal.returns-then-not-second_holds
returns-then-not-second_holds c = λ cert is pay_is values firsts seconds sums.
    let a = c.args.claim.now in
    let own = subst (λ (l : List ℕ). AreValuesWithout a.book.now l cert.withouts c.args.values.now) is.choice_is values in
    second-of a.book.now (weight_of c.args.weights.now) a cert c.args.pay.now cert.rows (Some c.loop-place.place) is pay_is refl
    (fails-here (C8 a.book.now (weight_of c.args.weights.now) (cert_with a cert.withouts c.args.pay.now cert.rows)) c.loop-place.place c.second_holds.result
    (c.loop-place.invariant cert.withouts cert.rows own firsts seconds sums) (c.second_holds.ensures cert.withouts cert.rows own firsts seconds sums)
    c.if-not-second_holds.true)

pub returns : goal.returns
returns c = λ cert is pay_is values firsts seconds sums.
    let a = c.args.claim.now in
    let own = subst (λ (l : List ℕ). AreValuesWithout a.book.now l cert.withouts c.args.values.now) is.choice_is values in
    second-of a.book.now (weight_of c.args.weights.now) a cert c.args.pay.now cert.rows None is pay_is refl
    (holds-everywhere (C8 a.book.now (weight_of c.args.weights.now) (cert_with a cert.withouts c.args.pay.now cert.rows)) c.loop-place.place
    (c.loop-place.invariant cert.withouts cert.rows own firsts seconds sums)
    (λ place past. past-C8 a.book.now (cert_with a cert.withouts c.args.pay.now cert.rows) (weight_of c.args.weights.now) place
    (omega (arith, firsts.count, c.bidders.ensures.bidders))))
