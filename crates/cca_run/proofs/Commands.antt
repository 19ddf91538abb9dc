-- How a run ends by the work of its command.
use Rattle.std.proofs.Common.{◌≡◌, Option, Some, Result, Ok, Err, subst, sym}
use Rattle.std.specs.Prelude.{IfOk}
use Rattle.cca_base.specs.Files.{Folder}
use Rattle.cca_base.specs.Sink.{Output}
use Rattle.cca_cli.specs.Command.{CommandValue}
use Rattle.cca_cli.specs.declared.status.Status.{Status}
use Rattle.cca_commands.specs.Works.{AreOutputs, Works, WorksOut}
use Rattle.cca_commands.specs.declared.work.Stop.{Stop}
use Rattle.cca_commands.specs.declared.work.Work.{Work}
use Rattle.cca_run.specs.Ends.{CommandEnds, RunEnds}
use Rattle.cca_run.proofs.Finished.{run-ends}
use Rattle.cca_run.proofs.Stopped.{stop-ends}

-- what is appended goes to files of the command
pub outputs-are : (command : CommandValue) (old mid : Folder) (worked : Result Work Stop) → WorksOut command old mid worked
    → IfOk worked (λ work. AreOutputs command work.appended.items)
outputs-are command old mid (Ok work) out = out.0
outputs-are command old mid (Err stop) out = tt

-- from the way to the work and the way from it on
pub command-ends : (command : CommandValue) (old mid new : Folder) (before now : Output) (worked : Result Work Stop) (result : Status)
    → Works command old mid worked → CommandEnds command mid new before now worked result → RunEnds (Some command) old new before now result
command-ends command old mid new before now (Ok work) result works ends =
    run-ends command old mid new before now work.printed work.appended.items result works.reads ends works.out.1
command-ends command old mid new before now (Err stop) result works ends =
    subst (λ (f : Folder). RunEnds (Some command) old f before now result) (sym ends.0)
    (stop-ends command old mid before now stop result works.reads works.out ends.1)
