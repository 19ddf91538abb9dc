use Rattle.std.proofs.Common.{◌≡◌, rules, subst, length, List, arith}
use Rattle.std.proofs.lemmas.Grind.{common_steps}
use Rattle.cca_base.specs.Entries.{with_gave}
use Rattle.cca_base.specs.Files.{KeepsFiles}
use Rattle.cca_base.specs.MemFiles.{mem_folder}
use Rattle.cca_base.specs.declared.memory.mem_file.MemFile.{MemFile}
use Rattle.cca_base.proofs.Given.{keeps_with, whole_slice}
use Rattle.cca_base.proofs.memory.mem_files.MemFilesFiles.append.Goals as goal

pub returns-then-contains-clause-kept : goal.returns-then-contains-clause-kept
returns-then-contains-clause-kept c =
    let old = c.args.self.now.files.items in
    let new = c.count_append_fault.new.files in
    let kept : KeepsFiles (mem_folder old) (mem_folder new) = search rules in
    let gave = c.args.self.now.gave.calls in
    let long : length new ≡ length old = search rules in
    let same = whole_slice c.args.self.now.files.len new old long (search rules) in
    subst (λ (files : List MemFile). KeepsFiles (with_gave (mem_folder old) gave) (with_gave (mem_folder files) gave)) same
    (keeps_with (mem_folder old) (mem_folder new) gave kept)

pub returns-then-is_err-clause-kept : goal.returns-then-is_err-clause-kept
returns-then-is_err-clause-kept c =
    let old = c.args.self.now.files.items in
    let new = c.add_to.new.files in
    let gave = c.args.self.now.gave.calls in
    let kept : KeepsFiles (mem_folder old) (mem_folder new) = search rules in
    let long : length new ≡ length old = search rules in
    let same = whole_slice c.args.self.now.files.len new old long (search rules) in
    subst (λ (files : List MemFile). KeepsFiles (with_gave (mem_folder old) gave) (with_gave (mem_folder files) gave)) same
    (keeps_with (mem_folder old) (mem_folder new) gave kept)

pub returns-then-contains-clause-count : goal.returns-then-contains-clause-count
returns-then-contains-clause-count c = grind (arith, common_steps)

pub returns-then-contains-clause-loads : goal.returns-then-contains-clause-loads
returns-then-contains-clause-loads c = grind (arith, common_steps)

pub returns-then-contains-clause-cause : goal.returns-then-contains-clause-cause
returns-then-contains-clause-cause c = grind (arith, common_steps)

pub returns-then-contains-clause-counted : goal.returns-then-contains-clause-counted
returns-then-contains-clause-counted c = grind (arith, common_steps)

pub returns-then-is_err-clause-count : goal.returns-then-is_err-clause-count
returns-then-is_err-clause-count c = grind (arith, common_steps)

pub returns-then-is_err-clause-loads : goal.returns-then-is_err-clause-loads
returns-then-is_err-clause-loads c = grind (arith, common_steps)

pub returns-then-is_err-clause-cause : goal.returns-then-is_err-clause-cause
returns-then-is_err-clause-cause c = grind (arith, common_steps)

pub returns-then-is_err-clause-counted : goal.returns-then-is_err-clause-counted
returns-then-is_err-clause-counted c = grind (arith, common_steps)

pub returns-clause-bytes : goal.returns-clause-bytes
returns-clause-bytes c = grind (arith, common_steps)

pub returns-clause-count : goal.returns-clause-count
returns-clause-count c = grind (arith, common_steps)

pub returns-clause-loads : goal.returns-clause-loads
returns-clause-loads c = grind (arith, common_steps)

pub returns-clause-quiet : goal.returns-clause-quiet
returns-clause-quiet c = grind (arith, common_steps)
