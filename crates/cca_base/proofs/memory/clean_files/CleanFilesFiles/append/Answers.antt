use Rattle.std.proofs.Common.{◌≡◌, rules, subst, length, List, arith}
use Rattle.std.proofs.lemmas.Grind.{common_steps}
use Rattle.cca_base.specs.CleanFiles.{clean_folder}
use Rattle.cca_base.specs.Entries.{with_gave}
use Rattle.cca_base.specs.Files.{KeepsFiles}
use Rattle.cca_base.specs.declared.memory.clean_file.CleanFile.{CleanFile}
use Rattle.cca_base.proofs.Folders.{on_err}
use Rattle.cca_base.proofs.Given.{keeps_with, whole_slice}
use Rattle.cca_base.proofs.memory.clean_files.CleanFilesFiles.append.Goals as goal

pub returns-in_err-add_to-clause-kept : goal.returns-in_err-add_to-clause-kept
returns-in_err-add_to-clause-kept c =
    let old = c.args.self.now.files.items in
    let new = c.add_to.new.files in
    let gave = c.args.self.now.gave.calls in
    let kept : KeepsFiles (clean_folder old) (clean_folder new) = search rules in
    let long : length new ≡ length old = search rules in
    let same = whole_slice c.args.self.now.files.len new old long (search rules) in
    on_err c.from_residual.result (subst (λ (files : List CleanFile). KeepsFiles (with_gave (clean_folder old) gave) (with_gave (clean_folder files) gave))
    same (keeps_with (clean_folder old) (clean_folder new) gave kept))

pub returns-in_err-add_to-clause-count : goal.returns-in_err-add_to-clause-count
returns-in_err-add_to-clause-count c = grind (arith, common_steps)

pub returns-in_err-add_to-clause-loads : goal.returns-in_err-add_to-clause-loads
returns-in_err-add_to-clause-loads c = grind (arith, common_steps)

pub returns-in_err-add_to-clause-cause : goal.returns-in_err-add_to-clause-cause
returns-in_err-add_to-clause-cause c = grind (arith, common_steps)

pub returns-in_err-add_to-clause-counted : goal.returns-in_err-add_to-clause-counted
returns-in_err-add_to-clause-counted c = grind (arith, common_steps)

pub returns-clause-count : goal.returns-clause-count
returns-clause-count c = grind (arith, common_steps)

pub returns-clause-loads : goal.returns-clause-loads
returns-clause-loads c = grind (arith, common_steps)

pub returns-clause-quiet : goal.returns-clause-quiet
returns-clause-quiet c = grind (arith, common_steps)

pub returns-clause-bytes : goal.returns-clause-bytes
returns-clause-bytes c = grind (arith, common_steps)
