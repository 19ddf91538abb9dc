use Rattle.std.proofs.Common.{ℕ, List, length, map, sym, subst, arith}
use Rattle.std.specs.Prelude.{IsTrue}
use Rattle.auction_model.specs.Market.{uses}
use Rattle.cert_grammar.specs.Certificate.{part_of}
use Rattle.cert_grammar.specs.CertText.{AreRows}
use Rattle.cert_soundness.specs.Tests.{IsPart, bidders_of}
use Rattle.cert_text.specs.Parts.{row_value, without_value}
use Rattle.cert_text.specs.CertValues.{cert_value}
use Rattle.cert_text.specs.declared.certificate.WithoutPart.{WithoutPart}
use Rattle.cert_text.specs.declared.certificate.CertRow.{CertRow}
use Rattle.cert_check.specs.Columns.{AreFirsts, AreSeconds, AreSecondSums}
use Rattle.cert_check.specs.Fields.{AreValuesWithout}
use Rattle.cert_check.proofs.HeadLaws.{values-range}
use Rattle.cert_check.proofs.whole.nearest_failing.Goals as goal

pub put_values-requires-clause-parts : goal.put_values-requires-clause-parts
put_values-requires-clause-parts c = λ j some inside wins.
    let a = c.args.claim.now in
    let used = subst (λ (l : List ℕ). IsTrue (uses l j)) (sym c.requires.claim.choice_is) wins in
    subst (λ (l : List WithoutPart). IsPart a.book.now j (part_of (map without_value l) j)) (sym c.items-parts.ensures)
    ((c.requires.parts j).part some inside used)

pub second_test-requires-clause-values : goal.second_test-requires-clause-values
second_test-requires-clause-values c =
    let a = c.args.claim.now in
    values-range a c.kept.ensures (map without_value c.items-parts.result.now) c.put_values.new.values
    (λ j some inside wins.
    let used = subst (λ (l : List ℕ). IsTrue (uses l j)) (sym c.requires.claim.choice_is) wins in
    subst (λ (l : List WithoutPart). IsPart a.book.now j (part_of (map without_value l) j)) (sym c.items-parts.ensures)
    ((c.requires.parts j).part some inside used))
    c.put_values.ensures.values

pub put_sums-requires-clause-rows : goal.put_sums-requires-clause-rows
put_sums-requires-clause-rows c =
    let cert = c.args.cert.now in
    let bidders = length cert.choice in
    (bidders, subst (λ (l : List CertRow). AreRows bidders (map row_value l)) (sym c.items-rows.ensures) cert.rules.rows)

pub returns : goal.returns
returns c =
    let a = c.args.claim.now in
    let cert = cert_value c.args.cert.now in
    let values = subst (λ (l : List WithoutPart). AreValuesWithout a.book.now a.choice.now (map without_value l) c.put_values.new.values)
    c.items-parts.ensures c.put_values.ensures.values in
    c.second_test.ensures cert c.requires.claim (sym c.items-pay.ensures)
    (subst (λ (l : List ℕ). AreValuesWithout a.book.now l cert.withouts c.put_values.new.values) (sym c.requires.claim.choice_is) values)
    (subst (λ (l : List CertRow). AreFirsts (map row_value l) c.put_multipliers.new.numbers) c.items-rows.ensures c.put_multipliers.ensures)
    (subst (λ (l : List CertRow). AreSeconds (map row_value l) c.put_multipliers-2.new.numbers) c.items-rows.ensures c.put_multipliers-2.ensures)
    (subst (λ (l : List CertRow). AreSecondSums (bidders_of a.book.now) (map row_value l) c.put_sums.new.sums) c.items-rows.ensures
    (λ j some inside. c.put_sums.ensures.sums j some (omega (arith, inside, c.kept.ensures.bidders))))
