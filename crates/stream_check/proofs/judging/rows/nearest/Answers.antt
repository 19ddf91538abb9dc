use Rattle.std.proofs.Common.{◌∙◌, ◌≤◌, ℕ, List, length, refl, sym, ap, subst, arith}
use Rattle.std.specs.Prelude.{ℤ}
use Rattle.auction_model.specs.Book.{Book}
use Rattle.auction_model.specs.Prices.{AreWeights, weight_of}
use Rattle.bid_book.specs.Kept.{IsBidBook}
use Rattle.cert_grammar.specs.CertText.{AllInRange}
use Rattle.cert_soundness.specs.Tests.{C8, bidders_of}
use Rattle.cert_check.specs.Fields.{AreValuesWithout}
use Rattle.cert_check.specs.Places.{IsFirstFailing}
use Rattle.cert_check.proofs.HeadLaws.{values-range}
use Rattle.cert_check.proofs.VerdictLaws.{asks-C8}
use Rattle.stream_check.proofs.ClaimCome.{ends-claimed, parts_of-claim, pay-known}
use Rattle.stream_check.proofs.TotalsTests.{firsts-are, seconds-are, second-sums}
use Rattle.stream_check.proofs.judging.rows.nearest.Goals as goal

pub second_test-requires-clause-pay : goal.second_test-requires-clause-pay
second_test-requires-clause-pay c =
    let is = c.requires.some.1 in
    let pay_is = c.numbers_in-pay.ensures ∙ pay-known c.args.at.now c.requires.some.0 is c.requires.rows.line in (
      ap (λ (l : List ℤ). length l) pay_is ∙ is.kept.pay.0 ∙ ap bidders_of (sym c.requires.claim.book),
      subst AllInRange (sym pay_is) is.kept.pay.1,
    )

pub returns : goal.returns
returns c = λ cert is.
    let at = c.args.at.now in
    let totals = c.requires.rows.totals cert is in
    let few = subst (λ (b : Book). bidders_of b ≤ 16) (sym c.requires.claim.book) c.kept.ensures.bidders in
    let pay_is = c.numbers_in-pay.ensures ∙ pay-known c.args.at.now cert is c.requires.rows.line in
    let values = subst (λ (b : Book). AreValuesWithout b cert.choice cert.withouts c.part_values-values.result) (sym c.requires.claim.book)
    (c.part_values-values.ensures cert is) in
    asks-C8 at.book.now (weight_of at.weights.now) cert 8 c.second_test.result refl
    (subst (λ (b : Book). IsFirstFailing (C8 b (weight_of at.weights.now) cert) c.second_test.result) c.requires.claim.book
    (c.second_test.ensures cert (c.requires.claim.each cert is) (sym pay_is) values
    (firsts-are cert at.totals.now totals (omega (arith, totals.long.0, is.kept.few)))
    (seconds-are cert at.totals.now totals (omega (arith, totals.long.1, is.kept.few)))
    (second-sums cert at.totals.now totals (bidders_of c.args.claim.now.book.now) few)))

pub second_test-requires-clause-values : goal.second_test-requires-clause-values
second_test-requires-clause-values c =
    let cert = c.requires.some.0 in
    let is = c.requires.some.1 in
    let of = c.requires.claim.each cert is in
    let values = subst (λ (b : Book). AreValuesWithout b c.args.claim.now.choice.now cert.withouts c.part_values-values.result) (sym c.requires.claim.book)
    (subst (λ (l : List ℕ). AreValuesWithout c.args.at.now.book.now l cert.withouts c.part_values-values.result) of.choice_is
    (c.part_values-values.ensures cert is)) in
    values-range c.args.claim.now (subst IsBidBook (sym c.requires.claim.book) c.kept.ensures) cert.withouts c.part_values-values.result
    (parts_of-claim c.args.at.now cert is (ends-claimed c.args.at.now.due c.requires.rows.line).0 (ends-claimed c.args.at.now.due c.requires.rows.line).1 c.args.claim.now c.requires.claim)
    values

pub second_test-requires-clause-weights : goal.second_test-requires-clause-weights
second_test-requires-clause-weights c = subst (λ (b : Book). AreWeights (bidders_of b) c.args.at.now.weights.now)
    (sym c.requires.claim.book) c.args.at.now.weighed
