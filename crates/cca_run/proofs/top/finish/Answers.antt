use Rattle.std.proofs.Common.{◌∙◌}
use Rattle.cca_cli.specs.Words.{command_value}
use Rattle.cca_run.proofs.Finished.{append-failed}
use Rattle.cca_run.proofs.top.finish.Goals as goal

pub returns-in-Err : goal.returns-in-Err
returns-in-Err g c =
    append-failed (command_value c.args.command) (g.F.Files.folder c.args.files.now) (g.F.Files.folder c.append_all.new.files)
    (g.O.Sink.output c.args.out.now) (g.O.Sink.output c.print-in-Err.new.out)
    c.args.work.now.printed c.as_slice-in-Err.result.now c.args.work.now.appended.items c.in-Err.file c.print-in-Err.result
    (rw c.as_slice.ensures.value at c.in-Err.ensures.ends) c.in-Err.ensures.counts c.print-in-Err.ensures.count
    (c.as_slice-in-Err.ensures.value ∙ c.line_of.ensures) c.print-in-Err.ensures.printed
