use Rattle.std.proofs.Common.{refl, sym, ap, Err, subst, ◌⊎◌, ◌≡◌}
use Rattle.line_format.specs.LineText.{stated}
use Rattle.cca_cli.specs.Answers.{SlotsAnswers}
use Rattle.cca_cli.specs.Outcome.{stops}
use Rattle.cca_cli.specs.Reading.{IsStop}
use Rattle.cca_cli.specs.declared.status.Status.{Status}
use Rattle.cca_cli.specs.declared.status.Status.TheVariants.{Memory}
use Rattle.cca_cli.proofs.Stopped.{slots-stop}
use Rattle.cca_cli.proofs.inputs.slots_input.SlotsInputInput.read.Goals as goal

pub returns-in-Ok-clause-value : goal.returns-in-Ok-clause-value
returns-in-Ok-clause-value c = (stated c.in-Ok.slots, c.in-Ok.ensures.text, refl)

pub returns-in-Err-clause-stop : goal.returns-in-Err-clause-stop
returns-in-Err-clause-stop c =
    let bytes = c.args.bytes.now in
    let stop = c.in-Err.stop in
    subst (λ (s : Status). (s ≡ Memory) ⊎ (IsStop s × SlotsAnswers bytes (stops s))) (sym c.from.ensures)
    (slots-stop bytes stop (λ place e. c.in-Err.ensures.form place (ap Err e)) (λ kind count e. c.in-Err.ensures.limit kind count (ap Err e)))
