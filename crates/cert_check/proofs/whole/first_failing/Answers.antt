use Rattle.std.proofs.Common.{sym, refl, arith, rules, subst, List, ℕ}
use Rattle.std.specs.Prelude.{IsTrue}
use Rattle.std.proofs.lemmas.Int.{to_z-of_z}
use mir.Val.{SFits}
use mir.Syntax.{w128}
use Rattle.auction_model.specs.Book.{market_of}
use Rattle.auction_model.specs.Prices.{weight_of}
use Rattle.cert_soundness.specs.Tests.{bidders_of, states}
use Rattle.cert_text.specs.CertValues.{cert_value}
use Rattle.cert_check.proofs.ValueLaws.{allowed-by, cert-kept}
use Rattle.cert_check.proofs.VerdictLaws.{held-C2, asks-C1, asks-C2, asks-C3}
use Rattle.cert_check.proofs.whole.first_failing.Goals as goal

pub value_test-requires-clause-allowed : goal.value_test-requires-clause-allowed
value_test-requires-clause-allowed c =
    subst (λ (l : List ℕ). IsTrue ((market_of c.args.book.now).allowed l)) (sym c.numbers-in-3.ensures)
    (allowed-by c.args.book.now (cert_value c.args.cert.now) c.requires.shape.bidders_are
    (held-C2 c.args.book.now (weight_of c.args.weights.now) (cert_value c.args.cert.now) c.args.test c.requires.before (omega arith)))

pub value_test-requires-clause-table : goal.value_test-requires-clause-table
value_test-requires-clause-table c = (cert-kept (bidders_of c.args.book.now) (states c.args.book.now) c.args.cert.now c.requires.shape).table

pub returns-in-1 : goal.returns-in-1
returns-in-1 c =
    let cert = cert_value c.args.cert.now in
    let den_fits : SFits w128 c.args.cert.now.den = search rules in
    let value_fits : SFits w128 c.args.cert.now.value = search rules in
    asks-C1 c.args.book.now (weight_of c.args.weights.now) cert c.args.test c.sizes_test.result (omega arith)
    (c.sizes_test.ensures cert (sym (to_z-of_z w128 c.args.cert.now.den den_fits)) (sym (to_z-of_z w128 c.args.cert.now.value value_fits)))

pub returns-in-2 : goal.returns-in-2
returns-in-2 c =
    let cert = cert_value c.args.cert.now in
    let value_fits : SFits w128 c.args.cert.now.value = search rules in
    asks-C2 c.args.book.now (weight_of c.args.weights.now) cert c.args.test c.choice_test.result (omega arith)
    (c.choice_test.ensures cert (sym c.numbers.ensures) (sym (to_z-of_z w128 c.args.cert.now.value value_fits)))

pub returns-in-3 : goal.returns-in-3
returns-in-3 c =
    let cert = cert_value c.args.cert.now in
    let value_fits : SFits w128 c.args.cert.now.value = search rules in
    asks-C3 c.args.book.now (weight_of c.args.weights.now) cert c.args.test c.value_test.result (omega arith)
    (c.value_test.ensures cert (sym c.numbers-in-3.ensures) (sym (to_z-of_z w128 c.args.cert.now.value value_fits)) refl)
