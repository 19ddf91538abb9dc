use Rattle.std.proofs.Common.{◌≡◌, ◌≤◌, ◌∙◌, length, Err, ap, sym, subst, rules}
use Rattle.cca_base.specs.Files.{GaveAll, GaveMore}
use Rattle.cca_cli.specs.Reading.{InputStops}
use Rattle.cca_cli.specs.Stops.{read_status}
use Rattle.cca_base.specs.declared.read.ReadStop.TheVariants as read
use Rattle.cca_cli.specs.declared.status.Status.TheVariants.{Memory}
use Rattle.cca_cli.proofs.ReadStops.{memory-read, stops-read, stops-value}
use Rattle.cca_cli.proofs.input.read_input.Goals as goal

pub returns-in-Ok-clause-stop : goal.returns-in-Ok-clause-stop
returns-in-Ok-clause-stop g c =
    let old = g.F.Files.folder c.args.files.now in
    let new = g.F.Files.folder c.read_all.new.files in
    let all : GaveAll c.args.name.now old new c.deref.result.now = rw c.deref.ensures.value c.in-Ok.ensures.all in
    let short : length c.deref.result.now ≤ g.I.Input.room c.args.what.now = search rules in
    stops-value (g.I.Input.part c.args.what.now) (g.I.Input.room c.args.what.now) (g.I.Input.halts c.args.what.now) c.args.name.now old new c.deref.result.now
    c.read.result c.read.ensures.stop all short

pub returns-in-Err-clause-stop : goal.returns-in-Err-clause-stop
returns-in-Err-clause-stop g c =
    let old = g.F.Files.folder c.args.files.now in
    let new = g.F.Files.folder c.read_all.new.files in
    let kind = g.I.Input.part c.args.what.now in
    let most = g.I.Input.room c.args.what.now in
    let halts = g.I.Input.halts c.args.what.now in
    let is : c.status_of_read.result ≡ read_status kind most c.in-Err.stop = search rules in
    subst (InputStops kind most halts c.args.name.now old new) (sym is)
    (stops-read kind most halts c.args.name.now old new c.in-Err.stop (λ e. c.in-Err.ensures.fault (ap Err e))
    (λ some e. c.in-Err.ensures.no_fault some (ap Err e))
    (λ e. subst (GaveMore c.args.name.now old new) c.most.ensures.most (c.in-Err.ensures.too_long (ap Err e))))

pub returns-in-Ok-clause-memory : goal.returns-in-Ok-clause-memory
returns-in-Ok-clause-memory g c = λ memory. c.in-Ok.ensures.quiet (λ e. cc)

pub returns-in-Err-clause-memory : goal.returns-in-Err-clause-memory
returns-in-Err-clause-memory g c = λ memory.
    let kind = g.I.Input.part c.args.what.now in
    let most = g.I.Input.room c.args.what.now in
    let is : c.status_of_read.result ≡ read_status kind most c.in-Err.stop = search rules in
    let same : c.status_of_read.result ≡ Memory = cc in
    let wanting : c.in-Err.stop ≡ read.Memory = memory-read kind most c.in-Err.stop (sym is ∙ same) in
    c.in-Err.ensures.quiet (λ e. cc)
