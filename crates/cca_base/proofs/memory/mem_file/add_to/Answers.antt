use Rattle.std.proofs.Common.{◌≡◌, rules, ℕ, List, subst}
use Rattle.cca_base.specs.Faults.{Rose, one_more}
use Rattle.cca_base.specs.Files.{KeepsFiles, CountsOnly}
use Rattle.cca_base.specs.MemFiles.{mem_folder}
use Rattle.cca_base.proofs.Folders.{counts_still}
use Rattle.cca_base.proofs.Reading.{known_then, keeps_more}
use Rattle.cca_base.proofs.memory.mem_file.add_to.Goals as goal

pub count_append_fault-requires : goal.count_append_fault-requires
count_append_fault-requires c =
    let kept : KeepsFiles (mem_folder c.args.files.now) (mem_folder c.add_bytes.new.files) = search rules in
    known_then _ _ c.args.name.now kept c.requires

pub returns-then-is_err-clause-kept : goal.returns-then-is_err-clause-kept
returns-then-is_err-clause-kept c =
    let kept : KeepsFiles (mem_folder c.args.files.now) (mem_folder c.add_bytes.new.files) = search rules in
    keeps_more _ _ _ kept c.count_append_fault.ensures.kept

pub returns-then-is_err-clause-count : goal.returns-then-is_err-clause-count
returns-then-is_err-clause-count c = subst (λ (f : List ℕ → ℕ). CountsOnly c.args.name.now f (mem_folder c.count_append_fault.new.files).append_faults)
    c.add_bytes.ensures.appends c.count_append_fault.ensures.count

pub returns-then-is_err-clause-rose : goal.returns-then-is_err-clause-rose
returns-then-is_err-clause-rose c = subst (λ (f : List ℕ → ℕ). Rose (f c.args.name.now)
    ((mem_folder c.count_append_fault.new.files).append_faults c.args.name.now)) c.add_bytes.ensures.appends c.count_append_fault.ensures.rose

pub returns-then-is_err-clause-counted : goal.returns-then-is_err-clause-counted
returns-then-is_err-clause-counted c =
    subst (λ (f : List ℕ → ℕ). (mem_folder c.count_append_fault.new.files).append_faults c.args.name.now ≡ one_more (f c.args.name.now))
    c.add_bytes.ensures.appends c.count_append_fault.ensures.counted

pub returns-clause-count : goal.returns-clause-count
returns-clause-count c = counts_still c.args.name.now _ _ c.add_bytes.ensures.appends
