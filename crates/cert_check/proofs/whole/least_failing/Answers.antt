use Rattle.std.proofs.Common.{List, length, map, sym, subst, arith}
use Rattle.cert_grammar.specs.CertText.{AreRows}
use Rattle.cert_soundness.specs.Tests.{bidders_of}
use Rattle.cert_text.specs.Parts.{row_value}
use Rattle.cert_text.specs.CertValues.{cert_value}
use Rattle.cert_text.specs.declared.certificate.CertRow.{CertRow}
use Rattle.cert_check.specs.Columns.{AreFirsts, AreFirstSums}
use Rattle.cert_check.proofs.whole.least_failing.Goals as goal

pub put_sums-requires-clause-rows : goal.put_sums-requires-clause-rows
put_sums-requires-clause-rows c =
    let cert = c.args.cert.now in
    let bidders = length cert.choice in
    (bidders, subst (λ (l : List CertRow). AreRows bidders (map row_value l)) (sym c.items-rows.ensures) cert.rules.rows)

pub returns : goal.returns
returns c =
    let a = c.args.claim.now in
    let cert = cert_value c.args.cert.now in
    c.first_test.ensures cert c.requires.claim
    (subst (λ (l : List CertRow). AreFirsts (map row_value l) c.put_multipliers.new.numbers) c.items-rows.ensures c.put_multipliers.ensures)
    (subst (λ (l : List CertRow). AreFirstSums (bidders_of a.book.now) (map row_value l) c.put_sums.new.sums) c.items-rows.ensures
    (λ j some inside. c.put_sums.ensures.sums j some (omega (arith, inside, c.kept.ensures.bidders))))
