use Rattle.std.proofs.Common.{◌≡◌, true, [], Some, None, refl, arith, rules}
use Rattle.cert_soundness.specs.Tests.{C7}
use Rattle.cert_check.specs.Fields.{cert_with}
use Rattle.cert_check.proofs.FieldLaws.{first-of}
use Rattle.cert_check.proofs.PlaceTests.{before-next, fails-here, holds-everywhere}
use Rattle.cert_check.proofs.PlaceLaws.{past-C7}
use Rattle.cert_check.proofs.multipliers.first_test.Goals as goal

pub loop-place-preserved : goal.loop-place-preserved
loop-place-preserved c = λ rows numbers sums.
    let passed : c.first_holds.result ≡ true = search rules in
    let a = c.args.claim.now in
    before-next (C7 a.book.now (cert_with a [] [] rows)) c.loop-place.place c.first_holds.result (c.loop-place.invariant rows numbers sums)
    (c.first_holds.ensures rows numbers sums) passed

pub returns-then-not-first_holds : goal.returns-then-not-first_holds
returns-then-not-first_holds c = λ cert is numbers sums.
    let a = c.args.claim.now in
    first-of a.book.now a cert cert.rows (Some c.loop-place.place) is refl
    (fails-here (C7 a.book.now (cert_with a [] [] cert.rows)) c.loop-place.place c.first_holds.result (c.loop-place.invariant cert.rows numbers sums)
    (c.first_holds.ensures cert.rows numbers sums) c.if-not-first_holds.true)

pub returns : goal.returns
returns c = λ cert is numbers sums.
    let a = c.args.claim.now in
    first-of a.book.now a cert cert.rows None is refl
    (holds-everywhere (C7 a.book.now (cert_with a [] [] cert.rows)) c.loop-place.place (c.loop-place.invariant cert.rows numbers sums)
    (λ place past. past-C7 a.book.now (cert_with a [] [] cert.rows) place (omega (arith, numbers.count, c.bidders.ensures.bidders))))
