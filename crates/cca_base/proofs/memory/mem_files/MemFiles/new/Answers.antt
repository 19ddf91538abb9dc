use Rattle.std.proofs.Common.{◌≡◌, ℕ, ◌∙◌, ap, None}
use Rattle.cca_base.specs.Entries.{Seen}
use Rattle.cca_base.specs.MemFiles.{mem_seen}
use Rattle.cca_base.specs.declared.memory.mem_file.MemFile.{MemFile}
use Rattle.cca_base.proofs.Entries.{named, found_any}
use Rattle.cca_base.proofs.Folders.{name_by, fresh_count, fresh_nowhere}
use Rattle.cca_base.proofs.memory.mem_files.MemFiles.new.Goals as goal

-- as each file is at first
abbrev first : MemFile → Type 0
first f = mem_seen f ≡ record { name = (mem_seen f).name; file = None; load_faults = 0; append_faults = 0; room = None }

pub returns-clause-names : goal.returns-clause-names
returns-clause-names c = λ name. found_any (named (name_by mem_seen) name) c.in_ok-new_files.field-0.items ∙ c.in_ok-new_files.ensures.names name

pub returns-clause-faults : goal.returns-clause-faults
returns-clause-faults c = λ name.
    let none = λ (count : Seen → ℕ) (zero_at : (f : MemFile) → first f → count (mem_seen f) ≡ 0). fresh_count first (named (name_by mem_seen) name)
    (λ f. count (mem_seen f)) zero_at c.in_ok-new_files.field-0.items c.in_ok-new_files.ensures.fresh in (
      none (λ s. s.load_faults) (λ f fresh. ap (λ (s : Seen). s.load_faults) fresh),
      none (λ s. s.append_faults)
          (λ f fresh. ap (λ (s : Seen). s.append_faults) fresh),
    )

pub returns-clause-missing : goal.returns-clause-missing
returns-clause-missing c = λ name. fresh_nowhere first (named (name_by mem_seen) name) (λ f. (mem_seen f).file)
    (λ f fresh. ap (λ (s : Seen). s.file) fresh) c.in_ok-new_files.field-0.items c.in_ok-new_files.ensures.fresh
