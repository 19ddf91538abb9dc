use Rattle.std.proofs.Common.{[], rules}
use Rattle.cca_base.proofs.Given.{agrees_still, keeps_still}
use Rattle.cca_commands.proofs.Loads.{loaded-none}
use Rattle.cca_run.proofs.top.tell_words.Goals as goal

pub returns-clause-ends : goal.returns-clause-ends
returns-clause-ends g c =
    let folder = g.F.Files.folder c.args.files.now in
    let kept = keeps_still folder in
    let told = agrees_still folder.file folder in
    let loaded = loaded-none [] folder in
    search rules
