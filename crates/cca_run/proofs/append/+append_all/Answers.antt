use Rattle.std.proofs.Common.{◌≡◌, [], sym, subst, List}
use Rattle.cca_base.proofs.Given.{keeps_still}
use Rattle.cca_cli.specs.Words.{command_value}
use Rattle.cca_cli.specs.declared.file_text.FileText.{FileText}
use Rattle.cca_run.specs.Run.{AppendsAll}
use Rattle.cca_run.proofs.Appends.{no_texts, slice-first, slice-later}
use Rattle.cca_run.proofs.append.+append_all.Goals as goal

pub returns-in-Ok-clause-ends : goal.returns-in-Ok-clause-ends
returns-in-Ok-clause-ends g t c =
    slice-later (command_value c.args.command) c.args.texts.now c.first-item.result (g.F.Files.folder c.args.files.now)
    (g.F.Files.folder c.append_text.new.files) (g.F.Files.folder c.append_all.new.files)
    c.in-len1-up.len_at_least c.first-item.is c.in-Ok.ensures.ends c.in-Ok.ensures.counts c.append_all.result c.append_all.ensures.ends

pub returns-in-Err-clause-ends : goal.returns-in-Err-clause-ends
returns-in-Err-clause-ends g t c =
    slice-first (command_value c.args.command) c.args.texts.now c.first-item.result (g.F.Files.folder c.args.files.now)
    (g.F.Files.folder c.append_text.new.files) c.in-Err.kind
    c.in-len1-up.len_at_least c.first-item.is c.in-Err.ensures.ends

pub returns-in-empty-clause-ends : goal.returns-in-empty-clause-ends
returns-in-empty-clause-ends g t c =
    let old = g.F.Files.folder c.args.files.now in
    let none : c.args.texts.now ≡ [] = no_texts c.args.texts.now c.in-empty.len_below in
    subst (λ (texts : List FileText). AppendsAll (command_value c.args.command) texts old old) (sym none) (keeps_still old)
