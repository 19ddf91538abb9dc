use Rattle.std.proofs.Common.{◌≤◌, refl, sym, subst, arith}
use Rattle.auction_model.specs.Book.{Book}
use Rattle.auction_model.specs.Prices.{weight_of}
use Rattle.cert_soundness.specs.Tests.{C7, bidders_of}
use Rattle.cert_check.specs.Places.{IsFirstFailing}
use Rattle.cert_check.specs.Partway.{IsJudged}
use Rattle.cert_check.proofs.VerdictLaws.{asks-C7}
use Rattle.stream_check.proofs.TotalsTests.{firsts-are, first-sums}
use Rattle.stream_check.proofs.judging.rows.last_tests.Goals as goal

pub returns-in-Some : goal.returns-in-Some
returns-in-Some c = λ cert is holds.
    let at = c.args.at.now in
    let totals = c.requires.rows.totals cert is in
    let few = subst (λ (b : Book). bidders_of b ≤ 16) (sym c.requires.claim.book) c.kept.ensures.bidders in
    let first = subst (λ (b : Book). IsFirstFailing (C7 b cert) c.first_test.result) c.requires.claim.book
    (c.first_test.ensures cert (c.requires.claim.each cert is) (firsts-are cert at.totals.now totals (omega (arith, totals.long.0, is.kept.few)))
    (first-sums cert at.totals.now totals (bidders_of c.args.claim.now.book.now) few)) in
    subst (IsJudged at.book.now (weight_of at.weights.now) cert 8 0) c.in-Some.is
    (c.failure_of.ensures.judged at.book.now (weight_of at.weights.now) cert holds
    (asks-C7 at.book.now (weight_of at.weights.now) cert 7 c.first_test.result refl first))

pub returns-in-None : goal.returns-in-None
returns-in-None c = λ cert is holds.
    let at = c.args.at.now in
    let totals = c.requires.rows.totals cert is in
    let few = subst (λ (b : Book). bidders_of b ≤ 16) (sym c.requires.claim.book) c.kept.ensures.bidders in
    let first = subst (λ (b : Book). IsFirstFailing (C7 b cert) c.first_test.result) c.requires.claim.book
    (c.first_test.ensures cert (c.requires.claim.each cert is) (firsts-are cert at.totals.now totals (omega (arith, totals.long.0, is.kept.few)))
    (first-sums cert at.totals.now totals (bidders_of c.args.claim.now.book.now) few)) in
    let eight = subst (IsJudged at.book.now (weight_of at.weights.now) cert 8 0) c.in-None.is
    (c.failure_of.ensures.judged at.book.now (weight_of at.weights.now) cert holds
    (asks-C7 at.book.now (weight_of at.weights.now) cert 7 c.first_test.result refl first)) in
    c.failure_of-in-None.ensures.judged at.book.now (weight_of at.weights.now) cert eight (c.nearest.ensures cert is)
