use Rattle.std.proofs.Common.{◌≡◌, List, length, sym, ap, subst, ◌∙◌, Err}
use Rattle.std.specs.List.{AllByRecursion}
use Rattle.std.proofs.lemmas.Result.{err_from_is_err_and}
use Rattle.review.specs.Edits.{edit_lots}
use Rattle.review.specs.declared.edit.Edit.{Edit}
use Rattle.limits.specs.declared.TheConstants.{EDITS_BYTES}
use Rattle.cca_cli.specs.Answers.{EditsAnswers}
use Rattle.cca_cli.specs.declared.status.FileKind.TheVariants.{Edits}
use Rattle.cca_commands.specs.Gives.{EditsGive, ReviewGives}
use Rattle.cca_commands.specs.Works.{WorksFrom}
use Rattle.cca_commands.specs.declared.work.Stop.{Stop}
use Rattle.cca_commands.proofs.LastInput.{input-stops, input-works}
use Rattle.cca_commands.proofs.commands.edited.Goals as goal

pub returns-in_err-edits : goal.returns-in_err-edits
returns-in_err-edits g c =
    let old = g.F.Files.folder c.args.files.now in
    let new = g.F.Files.folder c.read_input.new.files in
    let book = c.args.book in
    let name = c.args.edits.now in
    let stopped = input-stops Edits EDITS_BYTES (EditsAnswers book) (ReviewGives book) name old new c.in_err-edits.ensures.loads
    _ (λ bytes s x. x) c.in_err-edits.field-0.0 c.in_err-edits.ensures.stop in
    let is = err_from_is_err_and c.from_residual.result c.from_residual.ensures.1 in
    subst (WorksFrom Edits name (λ content. EditsGive book content (ReviewGives book)) old new) (sym (is.1 ∙ ap (λ (s : Stop). Err s) is.2)) stopped

pub reviewed-requires : goal.reviewed-requires
reviewed-requires g c =
    let said = c.in_ok-edits.ensures.value in
    subst (λ (edits : List Edit). AllByRecursion (λ e. length (edit_lots e) ≡ length c.args.book.supply) edits) (sym c.items.ensures) said.says.1

pub returns : goal.returns
returns g c =
    let old = g.F.Files.folder c.args.files.now in
    let new = g.F.Files.folder c.read_input.new.files in
    let book = c.args.book in
    let said = c.in_ok-edits.ensures.value in
    input-works Edits EDITS_BYTES (EditsAnswers book) (ReviewGives book) c.args.edits.now old new c.in_ok-edits.ensures.loads
    c.in_ok-edits.edits said.bytes said.short said.says.0 said.here c.reviewed.result (rw c.items.ensures at c.reviewed.ensures)
