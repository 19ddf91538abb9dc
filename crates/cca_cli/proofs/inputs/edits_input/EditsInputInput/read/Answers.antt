use Rattle.std.proofs.Common.{sym, ap, Err, subst, ◌⊎◌, ◌≡◌}
use Rattle.line_format.specs.LineText.{stated}
use Rattle.cca_cli.specs.Answers.{EditsAnswers}
use Rattle.cca_cli.specs.Outcome.{stops, value}
use Rattle.cca_cli.specs.Reading.{IsStop}
use Rattle.cca_cli.specs.declared.status.Status.{Status}
use Rattle.cca_cli.specs.declared.status.Status.TheVariants.{Memory}
use Rattle.cca_cli.proofs.Stopped.{edits-stop}
use Rattle.cca_cli.proofs.inputs.edits_input.EditsInputInput.read.Goals as goal

pub returns-in-Ok-clause-value : goal.returns-in-Ok-clause-value
returns-in-Ok-clause-value c =
    let text = c.in-Ok.ensures.text in
    ((stated text.0, text.1, ap value text.2), c.in-Ok.ensures.categories)

pub returns-in-Err-clause-stop : goal.returns-in-Err-clause-stop
returns-in-Err-clause-stop c =
    let book = c.args.self.now.book.now in
    let bytes = c.args.bytes.now in
    subst (λ (s : Status). (s ≡ Memory) ⊎ (IsStop s × EditsAnswers book bytes (stops s))) (sym c.from.ensures)
    (edits-stop book bytes c.in-Err.stop (λ place e. c.in-Err.ensures.form place (ap Err e)) (λ kind count e. c.in-Err.ensures.limit kind count (ap Err e)))
