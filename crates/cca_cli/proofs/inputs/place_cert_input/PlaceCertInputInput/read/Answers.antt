use Rattle.std.proofs.Common.{refl, sym, subst, length, ◌⊎◌, ◌≡◌}
use Rattle.line_format.specs.LineText.{stated}
use Rattle.placement_cert.specs.CertValues.{place_cert_value}
use Rattle.cca_cli.specs.Answers.{PlaceCertAnswers}
use Rattle.cca_cli.specs.Outcome.{stops}
use Rattle.cca_cli.specs.Reading.{IsStop}
use Rattle.cca_cli.specs.declared.status.Status.{Status}
use Rattle.cca_cli.specs.declared.status.Status.TheVariants.{Memory}
use Rattle.cca_cli.proofs.Stopped.{place-stop}
use Rattle.cca_cli.proofs.inputs.place_cert_input.PlaceCertInputInput.read.Goals as goal

pub returns-in-Ok-clause-value : goal.returns-in-Ok-clause-value
returns-in-Ok-clause-value c = (
  (stated (place_cert_value c.in-Ok.cert), rw c.bidders.ensures.count at c.in-Ok.ensures.says, refl),
  rw c.bidders.ensures.count at c.in-Ok.ensures.bidders,
)

pub returns-in-Err-clause-stop : goal.returns-in-Err-clause-stop
returns-in-Err-clause-stop c =
    let bidders = length c.args.self.now.slots.now.bidders in
    let bytes = c.args.bytes.now in
    subst (λ (s : Status). (s ≡ Memory) ⊎ (IsStop s × PlaceCertAnswers bidders bytes (stops s))) (sym c.from.ensures)
    (place-stop bidders bytes c.in-Err.stop (rw c.bidders.ensures.count at c.in-Err.ensures.stops))
