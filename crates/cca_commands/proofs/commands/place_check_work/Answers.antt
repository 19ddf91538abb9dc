use Rattle.std.proofs.Common.{refl, arith, [], ◌∷◌, sym, ap, subst, ◌∙◌, Err}
use Rattle.std.proofs.lemmas.Result.{err_from_is_err_and}
use Rattle.limits.specs.declared.TheConstants.{SLOTS_BYTES}
use Rattle.cca_cli.specs.Answers.{SlotsAnswers}
use Rattle.cca_cli.specs.Command.{place_check}
use Rattle.cca_cli.specs.declared.status.FileKind.TheVariants.{Cert, Slots}
use Rattle.cca_commands.specs.Gives.{PlaceCertGives, PlaceVerdictGives}
use Rattle.cca_commands.specs.Works.{Works}
use Rattle.cca_commands.specs.declared.work.Stop.{Stop}
use Rattle.cca_commands.proofs.Progress.{begins, reads-next, stops-next, works-from}
use Rattle.cca_commands.proofs.commands.place_check_work.Goals as goal

pub returns-in_err-slots : goal.returns-in_err-slots
returns-in_err-slots g c =
    let command = place_check c.args.slots.now c.args.cert.now in
    let old = g.F.Files.folder c.args.files.now in
    let new = g.F.Files.folder c.read_input.new.files in
    let stopped = stops-next command old old new [] Slots SLOTS_BYTES SlotsAnswers (λ contents s. PlaceCertGives s (contents Cert) (PlaceVerdictGives s))
    c.args.slots.now refl (0, omega arith, refl) refl (begins command old)
    c.in_err-slots.ensures.loads _ (λ bytes s x. x) (λ files. refl) (λ files. tt) c.in_err-slots.field-0.0 c.in_err-slots.ensures.stop in
    let is = err_from_is_err_and c.from_residual.result c.from_residual.ensures.1 in
    subst (Works command old new) (sym (is.1 ∙ ap (λ (s : Stop). Err s) is.2)) stopped

pub returns : goal.returns
returns g c =
    let cert = c.args.cert.now in
    let command = place_check c.args.slots.now cert in
    let old = g.F.Files.folder c.args.files.now in
    let mid = g.F.Files.folder c.read_input.new.files in
    let new = g.F.Files.folder c.checked_places.new.files in
    let read = c.in_ok-slots.ensures.value in
    let slots = c.in_ok-slots.slots in
    let at = reads-next command old old mid [] Slots SLOTS_BYTES SlotsAnswers (λ contents s. PlaceCertGives s (contents Cert) (PlaceVerdictGives s))
    c.args.slots.now refl (0, omega arith, refl) refl (begins command old)
    c.in_ok-slots.ensures.loads slots read.bytes read.short read.says read.here in
    works-from command old mid new (Slots ∷ []) Cert cert (λ content. PlaceCertGives slots content (PlaceVerdictGives slots))
    (record { input = refl; within = (1, omega arith, refl); place = refl; unseen = (refl, tt) }) at refl c.checked_places.result c.checked_places.ensures
