use Rattle.std.proofs.Common.{◌≡◌, None, ◌∙◌, subst, arith, rules}
use Rattle.cert_check.specs.Places.{IsFirstFailing}
use Rattle.cert_soundness.specs.Tests.{Asks}
use Rattle.auction_model.specs.Prices.{weight_of}
use Rattle.cert_text.specs.CertValues.{cert_value}
use Rattle.cert_check.proofs.VerdictLaws.{held-next, held-all, fails-first}
use Rattle.cert_check.proofs.whole.check.Goals as goal

pub returns-in-Some-clause-verdict : goal.returns-in-Some-clause-verdict
returns-in-Some-clause-verdict c = fails-first c.args.book.now (weight_of c.args.weights.now) (cert_value c.args.cert.now) c.loop-test.test
    c.loop-test.invariant c.in-Some.place c.in-Some.ensures

pub loop-test-preserved : goal.loop-test-preserved
loop-test-preserved c =
    let none : c.first_failing.result ≡ None = search rules in
    held-next c.args.book.now (weight_of c.args.weights.now) (cert_value c.args.cert.now) c.loop-test.test c.loop-test.invariant
    (subst (IsFirstFailing (Asks c.args.book.now (weight_of c.args.weights.now) (cert_value c.args.cert.now) c.loop-test.test)) none c.first_failing.ensures)

pub returns-clause-verdict : goal.returns-clause-verdict
returns-clause-verdict c = held-all c.args.book.now (weight_of c.args.weights.now) (cert_value c.args.cert.now) c.loop-test.test c.loop-test.invariant
    (omega arith)

pub returns-clause-sound : goal.returns-clause-sound
returns-clause-sound c =
    λ yes. c.sound_yes.ensures c.args.book.now c.args.weights.now (cert_value c.args.cert.now) c.requires.weights c.requires.shape.bidders_are
    (c.args.cert.now.rules.pay.0 ∙ c.requires.shape.bidders_are)
    (held-all c.args.book.now (weight_of c.args.weights.now) (cert_value c.args.cert.now) c.loop-test.test c.loop-test.invariant (omega arith))
