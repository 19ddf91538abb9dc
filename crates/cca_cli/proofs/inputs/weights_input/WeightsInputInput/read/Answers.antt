use Rattle.std.proofs.Common.{refl, sym, ap, Err, subst, ◌⊎◌, ◌≡◌}
use Rattle.line_format.specs.LineText.{stated}
use Rattle.cca_cli.specs.Answers.{WeightsAnswers}
use Rattle.cca_cli.specs.Outcome.{stops}
use Rattle.cca_cli.specs.Reading.{IsStop}
use Rattle.cca_cli.specs.declared.status.Status.{Status}
use Rattle.cca_cli.specs.declared.status.Status.TheVariants.{Memory}
use Rattle.cca_cli.proofs.Stopped.{weights-stop}
use Rattle.cca_cli.proofs.inputs.weights_input.WeightsInputInput.read.Goals as goal

pub returns-in-Ok-clause-value : goal.returns-in-Ok-clause-value
returns-in-Ok-clause-value c = ((stated c.in-Ok.weights, c.in-Ok.ensures.text, refl), c.in-Ok.ensures.text.valid)

pub returns-in-Err-clause-stop : goal.returns-in-Err-clause-stop
returns-in-Err-clause-stop c =
    let book = c.args.self.now.book.now in
    let bytes = c.args.bytes.now in
    subst (λ (s : Status). (s ≡ Memory) ⊎ (IsStop s × WeightsAnswers book bytes (stops s))) (sym c.from.ensures)
    (weights-stop book bytes c.in-Err.stop (λ place e. c.in-Err.ensures.form place (ap Err e)))
