use Rattle.std.proofs.Common.{sym, subst, ◌⊎◌, ◌≡◌}
use Rattle.cca_cli.specs.Answers.{LogAnswers}
use Rattle.cca_cli.specs.Outcome.{stops}
use Rattle.cca_cli.specs.Reading.{IsStop}
use Rattle.cca_cli.specs.declared.status.Status.{Status}
use Rattle.cca_cli.specs.declared.status.Status.TheVariants.{Memory}
use Rattle.cca_cli.proofs.Stopped.{log-stop}
use Rattle.cca_cli.proofs.inputs.log_input.LogInputInput.read.Goals as goal

pub returns-in-Err-clause-stop : goal.returns-in-Err-clause-stop
returns-in-Err-clause-stop c =
    let terms = c.args.self.now.award.now in
    let bytes = c.args.bytes.now in
    subst (λ (s : Status). (s ≡ Memory) ⊎ (IsStop s × LogAnswers terms bytes (stops s))) (sym c.from.ensures)
    (log-stop terms bytes c.in-Err.stop c.in-Err.ensures.err)
