use Rattle.std.proofs.Common.{◌≡◌, ◌+◌, ◌∙◌, ℕ, List, [], length, map, true, Some, None, refl, sym, ap, subst, arith, rules}
use Rattle.std.proofs.lemmas.List.{length-map}
use Rattle.cert_grammar.specs.CertText.{AreMembers}
use Rattle.cert_soundness.specs.Tests.{C6, bidders_of}
use Rattle.cert_text.specs.Parts.{row_value}
use Rattle.cert_check.specs.Fields.{cert_with, row_with}
use Rattle.cert_check.proofs.FieldLaws.{rows-of, row-here}
use Rattle.cert_check.proofs.PlaceTests.{before-next, fails-here, holds-everywhere}
use Rattle.cert_check.proofs.PlaceLaws.{past-C6}
use Rattle.cert_check.proofs.SumLaws.{each-row}
use Rattle.cert_check.proofs.whole.rows.rows_test.Goals as goal

pub row_holds-requires-clause-members : goal.row_holds-requires-clause-members
row_holds-requires-clause-members c =
    let row = each-row (bidders_of c.args.claim.now.book.now) c.args.rows.now c.loop-r.r c.index-rows-r.result c.requires.rows c.loop-r-test.true
    c.index-rows-r.is in
    subst (λ (l : List ℕ). AreMembers (bidders_of c.args.claim.now.book.now) 0 l) (sym c.items.ensures) row.members

pub row_holds-requires-clause-choice : goal.row_holds-requires-clause-choice
row_holds-requires-clause-choice c =
    let row = each-row (bidders_of c.args.claim.now.book.now) c.args.rows.now c.loop-r.r c.index-rows-r.result c.requires.rows c.loop-r-test.true
    c.index-rows-r.is in
    ap (λ (l : List ℕ). length l) c.numbers.ensures ∙ row.choice.0

pub returns-then-not-row_holds : goal.returns-then-not-row_holds
returns-then-not-row_holds c = λ cert is pay_is rows_is.
    let a = c.args.claim.now in
    let rows = map row_value c.args.rows.now in
    rows-of a.book.now a cert c.args.pay.now rows (Some (c.loop-r.r + 1)) is pay_is rows_is
    (fails-here (C6 a.book.now (cert_with a [] c.args.pay.now rows)) (c.loop-r.r + 1) c.row_holds.result c.loop-r.invariant
    (row-here a c.args.pay.now c.args.rows.now c.loop-r.r c.index-rows-r.result c.items.result.now c.numbers.result.now c.row_holds.result
    c.loop-r-test.true c.index-rows-r.is c.items.ensures c.numbers.ensures (c.row_holds.ensures (cert_with a [] c.args.pay.now [])
    (row_with c.items.result.now c.numbers.result.now) (record { den_is = refl; value_is = refl; choice_is = refl }) refl refl refl))
    c.if-not-row_holds.true)

pub loop-r-preserved : goal.loop-r-preserved
loop-r-preserved c =
    let passed : c.row_holds.result ≡ true = search rules in
    let a = c.args.claim.now in
    before-next (C6 a.book.now (cert_with a [] c.args.pay.now (map row_value c.args.rows.now))) (c.loop-r.r + 1) c.row_holds.result c.loop-r.invariant
    (row-here a c.args.pay.now c.args.rows.now c.loop-r.r c.index-rows-r.result c.items.result.now c.numbers.result.now c.row_holds.result
    c.loop-r-test.true c.index-rows-r.is c.items.ensures c.numbers.ensures (c.row_holds.ensures (cert_with a [] c.args.pay.now [])
    (row_with c.items.result.now c.numbers.result.now) (record { den_is = refl; value_is = refl; choice_is = refl }) refl refl refl)) passed

pub returns : goal.returns
returns c = λ cert is pay_is rows_is.
    let a = c.args.claim.now in
    let rows = map row_value c.args.rows.now in
    rows-of a.book.now a cert c.args.pay.now rows None is pay_is rows_is
    (holds-everywhere (C6 a.book.now (cert_with a [] c.args.pay.now rows)) (c.loop-r.r + 1) c.loop-r.invariant
    (λ place past. past-C6 a.book.now (cert_with a [] c.args.pay.now rows) place (omega (arith, length-map c.args.rows.now row_value))))
