use Rattle.std.proofs.Common.{◌≡◌, ◌∙◌, Err, ap, refl, sym, subst, rules}
use Rattle.limits.specs.declared.TheConstants.{CERT_BYTES}
use Rattle.cca_commands.specs.Checked.{StopsCheck, feed_status}
use Rattle.cca_cli.specs.Reading.{InputStops}
use Rattle.cca_cli.specs.declared.status.FileKind.TheVariants.{Cert}
use Rattle.cca_cli.specs.declared.status.Status.TheVariants.{Memory}
use Rattle.cca_commands.proofs.Feeding.{feed-memory, judged-memory, judged-stop, judged-value, stops-feed}
use Rattle.cca_commands.proofs.checked.check_file.Goals as goal

pub returns-in-Ok-clause-value : goal.returns-in-Ok-clause-value
returns-in-Ok-clause-value g c = judged-value c.args.book.now c.args.weights.now _ _ _ _ _ c.in-Ok.checker c.judge_cert.result c.in-Ok.ensures.fed refl
    c.judge_cert.ensures.judged

pub returns-in-Ok-clause-stop : goal.returns-in-Ok-clause-stop
returns-in-Ok-clause-stop g c = judged-stop c.args.book.now c.args.weights.now _ _ _ _ _ c.in-Ok.checker c.judge_cert.result c.in-Ok.ensures.fed refl
    c.judge_cert.ensures.judged

pub returns-in-Ok-clause-memory : goal.returns-in-Ok-clause-memory
returns-in-Ok-clause-memory g c = λ memory.
    judged-memory c.args.book.now c.args.weights.now _ _ _ _ _ c.in-Ok.checker c.in-Ok.ensures.fed refl (c.judge_cert.ensures.memory memory)

pub returns-in-Err-clause-stop : goal.returns-in-Err-clause-stop
returns-in-Err-clause-stop g c =
    let old = g.F.Files.folder c.args.files.now in
    let new = g.F.Files.folder c.feed_file.new.files in
    let halts = StopsCheck c.args.book.now c.args.weights.now in
    subst (InputStops Cert CERT_BYTES halts c.args.name.now old new) (sym c.status_of_feed.ensures)
    (stops-feed halts c.args.name.now old new c.in-Err.stop (λ e. c.in-Err.ensures.fault (ap Err e))
    (λ some e. c.in-Err.ensures.no_fault some (ap Err e)) (λ e. c.in-Err.ensures.too_long (ap Err e)))

pub returns-in-Err-clause-memory : goal.returns-in-Err-clause-memory
returns-in-Err-clause-memory g c = λ memory.
    let same : c.status_of_feed.result ≡ Memory = cc in
    absurd (feed-memory c.in-Err.stop (sym c.status_of_feed.ensures ∙ same))
