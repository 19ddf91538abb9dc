use Rattle.std.proofs.Common.{◌≡◌, ◌≤◌, length, Some, refl, rules, List, subst, arith}
use Rattle.std.proofs.lemmas.Grind.{common_steps}
use Rattle.cca_base.specs.Files.{KeepsFiles, Stands}
use Rattle.cca_base.specs.Entries.{with_gave}
use Rattle.cca_base.specs.declared.memory.mem_file.MemFile.{MemFile}
use Rattle.cca_base.specs.MemFiles.{mem_folder}
use Rattle.cca_base.proofs.Given.{front_stands, is_file, keeps_given, keeps_with, whole_slice}
use Rattle.cca_base.proofs.memory.mem_files.MemFilesFiles.load.Goals as goal

pub returns-in-Some-clause-kept : goal.returns-in-Some-clause-kept
returns-in-Some-clause-kept c =
    let file = c.in-Some.file.now in
    let buf = c.copy_from-n.new.buf in
    let n = c.copy_from-n.result in
    let here : (mem_folder c.args.self.now.files.items).file c.args.name.now ≡ Some file = search rules in
    let le : n ≤ length buf = search rules in
    let stands : Stands file c.args.at (length buf) buf n = search rules in
    keeps_given _ _ _ refl refl refl refl refl c.with-self.ensures (λ tells. is_file _ _ file here (front_stands file buf _ _ n le stands))

pub returns-then-contains-clause-kept : goal.returns-then-contains-clause-kept
returns-then-contains-clause-kept c =
    let old = c.args.self.now.files.items in
    let new = c.count_load_fault.new.files in
    let kept : KeepsFiles (mem_folder old) (mem_folder new) = search rules in
    let gave = c.args.self.now.gave.calls in
    let long : length new ≡ length old = search rules in
    let same = whole_slice c.args.self.now.files.len new old long (search rules) in
    subst (λ (files : List MemFile). KeepsFiles (with_gave (mem_folder old) gave) (with_gave (mem_folder files) gave)) same
    (keeps_with (mem_folder old) (mem_folder new) gave kept)

pub returns-in-None-clause-kept : goal.returns-in-None-clause-kept
returns-in-None-clause-kept c =
    let old = c.args.self.now.files.items in
    let new = c.count_load_fault-in-None.new.files in
    let kept : KeepsFiles (mem_folder old) (mem_folder new) = search rules in
    let gave = c.args.self.now.gave.calls in
    let long : length new ≡ length old = search rules in
    let same = whole_slice c.args.self.now.files.len new old long (search rules) in
    subst (λ (files : List MemFile). KeepsFiles (with_gave (mem_folder old) gave) (with_gave (mem_folder files) gave)) same
    (keeps_with (mem_folder old) (mem_folder new) gave kept)

pub returns-then-contains-clause-count : goal.returns-then-contains-clause-count
returns-then-contains-clause-count c = grind (arith, common_steps)

pub returns-then-contains-clause-appends : goal.returns-then-contains-clause-appends
returns-then-contains-clause-appends c = grind (arith, common_steps)

pub returns-then-contains-clause-cause : goal.returns-then-contains-clause-cause
returns-then-contains-clause-cause c = grind (arith, common_steps)

pub returns-then-contains-clause-counted : goal.returns-then-contains-clause-counted
returns-then-contains-clause-counted c = grind (arith, common_steps)

pub returns-in-None-clause-count : goal.returns-in-None-clause-count
returns-in-None-clause-count c = grind (arith, common_steps)

pub returns-in-None-clause-appends : goal.returns-in-None-clause-appends
returns-in-None-clause-appends c = grind (arith, common_steps)

pub returns-in-None-clause-cause : goal.returns-in-None-clause-cause
returns-in-None-clause-cause c = grind (arith, common_steps)

pub returns-in-None-clause-counted : goal.returns-in-None-clause-counted
returns-in-None-clause-counted c = grind (arith, common_steps)
