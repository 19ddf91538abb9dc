use Rattle.std.proofs.Common.{length, sym, ap, subst, ◌∙◌, Err}
use Rattle.std.proofs.lemmas.Result.{err_from_is_err_and}
use Rattle.limits.specs.declared.TheConstants.{CERT_BYTES}
use Rattle.placement_cert.specs.CertValues.{place_cert_value}
use Rattle.cca_cli.specs.Answers.{PlaceCertAnswers}
use Rattle.cca_cli.specs.declared.status.FileKind.TheVariants.{Cert}
use Rattle.cca_commands.specs.Gives.{PlaceCertGives, PlaceVerdictGives}
use Rattle.cca_commands.specs.Works.{WorksFrom}
use Rattle.cca_commands.specs.declared.work.Stop.{Stop}
use Rattle.cca_commands.proofs.LastInput.{input-stops, input-works}
use Rattle.cca_commands.proofs.commands.checked_places.Goals as goal

pub returns-in_err-cert : goal.returns-in_err-cert
returns-in_err-cert g c =
    let old = g.F.Files.folder c.args.files.now in
    let new = g.F.Files.folder c.read_input.new.files in
    let slots = c.args.slots.now in
    let name = c.args.cert.now in
    let stopped = input-stops Cert CERT_BYTES (PlaceCertAnswers (length slots.bidders)) (PlaceVerdictGives slots) name old new c.in_err-cert.ensures.loads
    _ (λ bytes s x. x) c.in_err-cert.field-0.0 c.in_err-cert.ensures.stop in
    let is = err_from_is_err_and c.from_residual.result c.from_residual.ensures.1 in
    subst (WorksFrom Cert name (λ content. PlaceCertGives slots content (PlaceVerdictGives slots)) old new) (sym (is.1 ∙ ap (λ (s : Stop). Err s) is.2)) stopped

pub returns : goal.returns
returns g c =
    let old = g.F.Files.folder c.args.files.now in
    let new = g.F.Files.folder c.read_input.new.files in
    let slots = c.args.slots.now in
    let tested = c.in_ok-cert.ensures.value in
    input-works Cert CERT_BYTES (PlaceCertAnswers (length slots.bidders)) (PlaceVerdictGives slots) c.args.cert.now old new c.in_ok-cert.ensures.loads
    (place_cert_value c.in_ok-cert.cert) tested.bytes tested.short tested.says.0 tested.here c.place_verdict.result c.place_verdict.ensures.work
