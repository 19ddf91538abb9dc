use Rattle.std.proofs.Common.{◌∙◌, List, length, refl, sym, ap, subst}
use Rattle.std.specs.Prelude.{ℤ}
use Rattle.auction_model.specs.Book.{Book}
use Rattle.auction_model.specs.Prices.{weight_of}
use Rattle.cert_soundness.specs.Tests.{C5, bidders_of}
use Rattle.cert_check.specs.Places.{IsFirstFailing}
use Rattle.cert_check.proofs.VerdictLaws.{asks-C5}
use Rattle.std.proofs.lemmas.Bool.{false≢true}
use Rattle.stream_check.specs.Moments.{Shows}
use Rattle.stream_check.proofs.ClaimCome.{pay-own, pay-holds, pay-shows}
use Rattle.stream_check.proofs.judging.claims.payments_line.Goals as goal

pub payments_test-requires : goal.payments_test-requires
payments_test-requires c = record {
  count = ap (λ (l : List ℤ). length l) (c.numbers_in-pay.ensures ∙ pay-own c.args.at.now c.requires.some.0 c.requires.some.1 c.requires.due)
      ∙ c.requires.some.1.kept.pay.0 ∙ ap bidders_of (sym c.requires.claim.book);
}

pub returns : goal.returns
returns c = subst (Shows c.args.at.now) (sym c.of.ensures) (λ cert next is follows. (
  let at = c.args.at.now in
      let first = subst (λ (b : Book). IsFirstFailing (C5 b cert) c.payments_test.result) c.requires.claim.book
      (c.payments_test.ensures cert (c.requires.claim.each cert is) (sym (c.numbers_in-pay.ensures ∙ pay-own c.args.at.now cert is c.requires.due))) in
      pay-shows c.args.at.now cert is c.requires.due next c.failure_of.result follows
      (c.failure_of.ensures.judged at.book.now (weight_of at.weights.now) cert (pay-holds c.args.at.now cert is c.requires.due)
      (asks-C5 at.book.now (weight_of at.weights.now) cert 5 c.payments_test.result refl first)),
  λ seen. absurd (false≢true seen),
))
