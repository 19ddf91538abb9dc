use Rattle.std.proofs.Common.{refl, arith, [], ◌∷◌, sym, ap, subst, ◌∙◌, Err}
use Rattle.std.proofs.lemmas.Result.{err_from_is_err_and}
use Rattle.limits.specs.declared.TheConstants.{SLOTS_BYTES}
use Rattle.cca_cli.specs.Answers.{SlotsAnswers}
use Rattle.cca_cli.specs.Command.{place}
use Rattle.cca_cli.specs.declared.status.FileKind.TheVariants.{Cert, Slots}
use Rattle.cca_commands.specs.Gives.{PlaceGives}
use Rattle.cca_commands.specs.Works.{Works}
use Rattle.cca_commands.specs.declared.work.Stop.{Stop}
use Rattle.cca_commands.proofs.Progress.{begins, reads-next, stops-next, works}
use Rattle.cca_commands.proofs.commands.place_work.Goals as goal

pub returns-in_err-slots : goal.returns-in_err-slots
returns-in_err-slots g c = λ cert.
    let name = c.args.slots.now in
    let old = g.F.Files.folder c.args.files.now in
    let new = g.F.Files.folder c.read_input.new.files in
    let stopped = stops-next (place name cert c.args.rounds) old old new [] Slots SLOTS_BYTES SlotsAnswers
    (λ contents s. PlaceGives s c.args.rounds) name refl (0, omega arith, refl) refl (begins
    (place name cert c.args.rounds) old) c.in_err-slots.ensures.loads
    _ (λ bytes s x. x) (λ files. refl) (λ files. tt) c.in_err-slots.field-0.0 c.in_err-slots.ensures.stop in
    let is = err_from_is_err_and c.from_residual.result c.from_residual.ensures.1 in
    subst (Works (place name cert c.args.rounds) old new) (sym (is.1 ∙ ap (λ (s : Stop). Err s) is.2)) stopped

pub returns : goal.returns
returns g c = λ cert.
    let name = c.args.slots.now in
    let old = g.F.Files.folder c.args.files.now in
    let new = g.F.Files.folder c.read_input.new.files in
    let read = c.in_ok-slots.ensures.value in
    let at = reads-next (place name cert c.args.rounds) old old new [] Slots SLOTS_BYTES SlotsAnswers
    (λ contents s. PlaceGives s c.args.rounds) name refl (0, omega arith, refl) refl (begins
    (place name cert c.args.rounds) old) c.in_ok-slots.ensures.loads
    c.in_ok-slots.slots read.bytes read.short read.says read.here in
    works (place name cert c.args.rounds) old new _ _ at (Cert ∷ []) (refl, tt) c.placed.result (λ files. c.placed.ensures)
