use Rattle.std.proofs.Common.{inl, inr, sym, ap, subst, ◌∙◌, Err}
use Rattle.std.proofs.lemmas.Result.{err_from_is_err_and}
use Rattle.auction_model.specs.Prices.{AreWeights}
use Rattle.cert_soundness.specs.Tests.{bidders_of}
use Rattle.cca_commands.specs.declared.work.Stop.{Stop}
use Rattle.cca_commands.proofs.CertWork.{same-weights}
use Rattle.cca_commands.proofs.commands.weigh_checked.Goals as goal

pub returns-in_err-weights : goal.returns-in_err-weights
returns-in_err-weights g c =
    let is = err_from_is_err_and c.from_residual.result c.from_residual.ensures.1 in
    inl (c.in_err-weights.field-0.0, is.1 ∙ ap (λ (s : Stop). Err s) is.2, c.in_err-weights.ensures.stop, c.in_err-weights.ensures.loads)

pub checked-requires-clause-weights : goal.checked-requires-clause-weights
checked-requires-clause-weights g c =
    let weighed = c.in_ok-weights.ensures.value in
    subst (AreWeights (bidders_of c.args.book.now)) (sym c.items.ensures) weighed.says.1

pub returns : goal.returns
returns g c =
    let mid = g.F.Files.folder c.read_input.new.files in
    let new = g.F.Files.folder c.checked.new.files in
    let weighed = c.in_ok-weights.ensures.value in
    let weights = c.in_ok-weights.weights in
    inr (
      weights,
      mid,
      record { bytes = weighed.bytes; short = weighed.short; says = weighed.says.0; here = weighed.here },
      c.in_ok-weights.ensures.loads,
      same-weights c.args.book.now _ weights c.args.cert.now mid new c.checked.result c.items.ensures c.checked.ensures,
    )
