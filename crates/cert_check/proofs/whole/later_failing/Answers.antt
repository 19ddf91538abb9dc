use Rattle.std.proofs.Common.{List, ap, map, refl, sym, subst, arith}
use Rattle.cert_grammar.specs.CertText.{AreWithouts}
use Rattle.cert_soundness.specs.Tests.{bidders_of, states}
use Rattle.auction_model.specs.Prices.{weight_of}
use Rattle.cert_text.specs.CertValues.{cert_value}
use Rattle.cert_text.specs.Parts.{row_value, without_value}
use Rattle.cert_text.specs.declared.certificate.WithoutPart.{WithoutPart}
use Rattle.cert_check.proofs.ValueLaws.{cert-kept}
use Rattle.cert_check.proofs.VerdictLaws.{held-C4, asks-C4, asks-C5, asks-C6, asks-C9}
use Rattle.cert_check.proofs.whole.later_failing.Goals as goal

pub nearest_failing-requires-clause-parts : goal.nearest_failing-requires-clause-parts
nearest_failing-requires-clause-parts c = held-C4 c.args.claim.now.book.now (weight_of c.args.weights.now)
    (cert_value c.args.cert.now) c.args.test c.requires.before (omega arith)

pub returns-in-5 : goal.returns-in-5
returns-in-5 c =
    let cert = cert_value c.args.cert.now in
    asks-C5 c.args.claim.now.book.now (weight_of c.args.weights.now) cert c.args.test c.payments_test.result (omega arith)
    (c.payments_test.ensures cert c.requires.claim (sym c.items-pay.ensures))

pub returns-in-6 : goal.returns-in-6
returns-in-6 c =
    let cert = cert_value c.args.cert.now in
    asks-C6 c.args.claim.now.book.now (weight_of c.args.weights.now) cert c.args.test c.rows_test.result (omega arith)
    (c.rows_test.ensures cert c.requires.claim (sym c.items-pay.ensures) (ap (map row_value) (sym c.items-rows.ensures)))

pub returns-in-4 : goal.returns-in-4
returns-in-4 c =
    let cert = cert_value c.args.cert.now in
    asks-C4 c.args.claim.now.book.now (weight_of c.args.weights.now) cert c.args.test c.parts_test.result (omega arith)
    (c.parts_test.ensures cert c.requires.claim.choice_is (ap (map without_value) (sym c.items.ensures)))

pub parts_test-requires : goal.parts_test-requires
parts_test-requires c =
    let b = bidders_of c.args.claim.now.book.now in
    let s = states c.args.claim.now.book.now in
    record {
      parts = (
        c.args.cert.now.choice,
        subst (λ (l : List WithoutPart). AreWithouts b s 1 c.args.cert.now.choice (map without_value l)) (sym c.items.ensures)
            (cert-kept b s c.args.cert.now c.requires.shape).withouts,
      );
    }

pub returns-in_default : goal.returns-in_default
returns-in_default c =
    let cert = cert_value c.args.cert.now in
    asks-C9 c.args.claim.now.book.now (weight_of c.args.weights.now) cert c.args.test c.lowered_test.result (omega arith)
    (c.lowered_test.ensures cert c.requires.claim (sym c.items-pay.ensures) refl)
