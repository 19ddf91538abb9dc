use Rattle.std.proofs.Common.{◌≡◌, true, arith, rules}
use Rattle.placement_cert.specs.CertValues.{place_cert_value}
use Rattle.placement_check.specs.PlaceTests.{Asks}
use Rattle.cert_check.proofs.PlaceTests.{before-next, fails-here, holds-everywhere}
use Rattle.placement_check.proofs.checking.first_failing.Goals as goal

pub loop-place-init : goal.loop-place-init
loop-place-init c = λ place low. absurd (omega (arith, low))

pub loop-place-preserved : goal.loop-place-preserved
loop-place-preserved c =
    let passed : c.test_holds.result ≡ true = search rules in
    before-next (Asks c.args.slots.now (place_cert_value c.args.cert.now) c.args.test) c.loop-place.place c.test_holds.result c.loop-place.invariant
    c.test_holds.ensures passed

pub returns-then-not-test_holds : goal.returns-then-not-test_holds
returns-then-not-test_holds c =
    fails-here (Asks c.args.slots.now (place_cert_value c.args.cert.now) c.args.test) c.loop-place.place c.test_holds.result c.loop-place.invariant
    c.test_holds.ensures c.if-not-test_holds.true

pub returns : goal.returns
returns c =
    holds-everywhere (Asks c.args.slots.now (place_cert_value c.args.cert.now) c.args.test) c.loop-place.place c.loop-place.invariant
    (λ place past. c.places-place-end.ensures place (omega (arith, past)))
