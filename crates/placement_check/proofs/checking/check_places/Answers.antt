use Rattle.std.proofs.Common.{◌≡◌, None, ◌∙◌, subst, arith, rules}
use Rattle.cert_check.specs.Places.{IsFirstFailing}
use Rattle.placement_cert.specs.CertValues.{place_cert_value}
use Rattle.placement_check.specs.PlaceTests.{Asks}
use Rattle.placement_check.proofs.VerdictLaws.{asks-none, held-next, held-all, fails-first}
use Rattle.placement_check.proofs.checking.check_places.Goals as goal

pub loop-test-init : goal.loop-test-init
loop-test-init c = λ test place low. asks-none c.args.slots.now (place_cert_value c.args.cert.now) test place (omega (arith, low))

pub returns-in-Some-clause-verdict : goal.returns-in-Some-clause-verdict
returns-in-Some-clause-verdict c = fails-first c.args.slots.now (place_cert_value c.args.cert.now) c.loop-test.test c.loop-test.invariant c.in-Some.place
    c.in-Some.ensures

pub returns-in-Some-clause-priced : goal.returns-in-Some-clause-priced
returns-in-Some-clause-priced c = λ priced.
    absurd (c.one_place_verdict.ensures.not_both c.args.slots.now (place_cert_value c.args.cert.now) c.loop-test.test c.in-Some.place priced.holds
    (fails-first c.args.slots.now (place_cert_value c.args.cert.now) c.loop-test.test c.loop-test.invariant c.in-Some.place c.in-Some.ensures))

pub loop-test-preserved : goal.loop-test-preserved
loop-test-preserved c =
    let none : c.first_failing.result ≡ None = search rules in
    held-next c.args.slots.now (place_cert_value c.args.cert.now) c.loop-test.test c.loop-test.invariant
    (subst (IsFirstFailing (Asks c.args.slots.now (place_cert_value c.args.cert.now) c.loop-test.test)) none c.first_failing.ensures)

pub returns-clause-verdict : goal.returns-clause-verdict
returns-clause-verdict c = held-all c.args.slots.now (place_cert_value c.args.cert.now) c.loop-test.test c.loop-test.invariant (omega arith)

pub returns-clause-sound : goal.returns-clause-sound
returns-clause-sound c =
    λ yes. c.sound_places.ensures c.args.slots.now (place_cert_value c.args.cert.now) (c.args.cert.now.rules.pay.0 ∙ c.requires)
    (held-all c.args.slots.now (place_cert_value c.args.cert.now) c.loop-test.test c.loop-test.invariant (omega arith))
