use Rattle.std.proofs.Common.{inl, inr, sym, ap, subst, ◌∙◌, Err}
use Rattle.std.proofs.lemmas.Result.{err_from_is_err_and}
use Rattle.auction_model.specs.Prices.{AreWeights}
use Rattle.cert_soundness.specs.Tests.{bidders_of}
use Rattle.cca_commands.specs.declared.work.Stop.{Stop}
use Rattle.cca_commands.proofs.commands.weighed.Goals as goal

pub returns-in_err-weights-clause-out : goal.returns-in_err-weights-clause-out
returns-in_err-weights-clause-out g c =
    let is = err_from_is_err_and c.from_residual.result c.from_residual.ensures.1 in
    inl (c.in_err-weights.field-0.0, is.1 ∙ ap (λ (s : Stop). Err s) is.2, c.in_err-weights.ensures.stop)

pub price_weighed-requires : goal.price_weighed-requires
price_weighed-requires g c =
    let weighed = c.in_ok-weights.ensures.value in
    subst (AreWeights (bidders_of c.args.book.now)) (sym c.items.ensures) weighed.says.1

pub returns-clause-out : goal.returns-clause-out
returns-clause-out g c =
    let weighed = c.in_ok-weights.ensures.value in
    inr (
      c.in_ok-weights.weights,
      record { bytes = weighed.bytes; short = weighed.short; says = weighed.says.0; here = weighed.here },
      (rw c.items.ensures at c.price_weighed.ensures),
    )
