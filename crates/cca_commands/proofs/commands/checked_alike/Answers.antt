use Rattle.std.proofs.Common.{inl, ◌∙◌, refl, sym, ap, subst, Err}
use Rattle.std.proofs.lemmas.Result.{err_from_is_err_and}
use Rattle.auction_model.specs.Prices.{AreWeights}
use Rattle.book_price.proofs.Ones.{ones-weigh}
use Rattle.cert_soundness.specs.Tests.{bidders_of}
use Rattle.cca_cli.proofs.ReadStops.{loads-none}
use Rattle.cca_commands.specs.Gives.{ones}
use Rattle.cca_commands.specs.Works.{CertWorks}
use Rattle.cca_commands.specs.declared.work.Stop.{Stop}
use Rattle.cca_commands.proofs.CertWork.{same-weights}
use Rattle.cca_commands.proofs.commands.checked_alike.Goals as goal

pub returns-in_err-weights : goal.returns-in_err-weights
returns-in_err-weights g c =
    let old = g.F.Files.folder c.args.files.now in
    let book = c.args.book.now in
    let is = err_from_is_err_and c.from_residual.result c.from_residual.ensures.1 in
    subst (CertWorks book (ones book) c.args.cert.now old old) (sym (is.1 ∙ ap (λ (s : Stop). Err s) is.2))
    (record { out = inl refl; loads = loads-none c.args.cert.now old })

pub checked-requires-clause-weights : goal.checked-requires-clause-weights
checked-requires-clause-weights g c =
    let bidders = bidders_of c.args.book.now in
    subst (AreWeights bidders) (sym (c.deref.ensures.value ∙ c.in_ok-weights.ensures)) (ones-weigh bidders)

pub returns : goal.returns
returns g c =
    let book = c.args.book.now in
    let old = g.F.Files.folder c.args.files.now in
    let new = g.F.Files.folder c.checked.new.files in
    same-weights book _ (ones book) c.args.cert.now old new c.checked.result (c.deref.ensures.value ∙ c.in_ok-weights.ensures) c.checked.ensures
