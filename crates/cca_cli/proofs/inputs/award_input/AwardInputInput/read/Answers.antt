use Rattle.std.proofs.Common.{sym, ap, subst, ◌⊎◌, ◌≡◌}
use Rattle.cca_cli.specs.Answers.{AwardAnswers, award_answer}
use Rattle.cca_cli.specs.Outcome.{stops}
use Rattle.cca_cli.specs.Reading.{IsStop}
use Rattle.cca_cli.specs.declared.status.Status.{Status}
use Rattle.cca_cli.specs.declared.status.Status.TheVariants.{Memory}
use Rattle.cca_cli.proofs.Stopped.{award-stop}
use Rattle.cca_cli.proofs.inputs.award_input.AwardInputInput.read.Goals as goal

pub returns-in-Ok-clause-value : goal.returns-in-Ok-clause-value
returns-in-Ok-clause-value c = (sym (ap award_answer c.in-Ok.ensures.ok), c.kept.ensures)

pub returns-in-Err-clause-stop : goal.returns-in-Err-clause-stop
returns-in-Err-clause-stop c =
    let bytes = c.args.bytes.now in
    subst (λ (s : Status). (s ≡ Memory) ⊎ (IsStop s × AwardAnswers bytes (stops s))) (sym c.from.ensures) (award-stop bytes c.in-Err.stop c.in-Err.ensures.err)
