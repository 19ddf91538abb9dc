use Rattle.std.proofs.Common.{◌≡◌, ℕ, ◌∙◌, ap, [], Some}
use Rattle.cca_base.specs.Entries.{Seen}
use Rattle.cca_base.specs.CleanFiles.{clean_seen}
use Rattle.cca_base.specs.declared.memory.clean_file.CleanFile.{CleanFile}
use Rattle.cca_base.proofs.Entries.{named, found_any}
use Rattle.cca_base.proofs.Folders.{name_by, fresh_count, fresh_here}
use Rattle.cca_base.proofs.memory.clean_files.CleanFiles.new.Goals as goal

-- as each file is at first
abbrev first : ℕ → CleanFile → Type 0
first room f = clean_seen f ≡ record { name = (clean_seen f).name; file = Some []; load_faults = 0; append_faults = 0; room = Some room }

pub returns-clause-names : goal.returns-clause-names
returns-clause-names c = λ name. found_any (named (name_by clean_seen) name) c.in_ok-new_files.field-0.items ∙ c.in_ok-new_files.ensures.names name

pub returns-clause-faults : goal.returns-clause-faults
returns-clause-faults c = λ name.
    let none = λ (count : Seen → ℕ) (zero_at : (f : CleanFile) → (first c.args.room) f → count (clean_seen f) ≡ 0). fresh_count (first c.args.room)
    (named (name_by clean_seen) name) (λ f. count (clean_seen f)) zero_at c.in_ok-new_files.field-0.items c.in_ok-new_files.ensures.fresh in (
      none (λ s. s.load_faults) (λ f fresh. ap (λ (s : Seen). s.load_faults) fresh),
      none (λ s. s.append_faults)
          (λ f fresh. ap (λ (s : Seen). s.append_faults) fresh),
    )

pub returns-clause-empty : goal.returns-clause-empty
returns-clause-empty c = λ name known. fresh_here (first c.args.room) (named (name_by clean_seen) name) (λ f. (clean_seen f).file) (Some [])
    (λ f fresh. ap (λ (s : Seen). s.file) fresh) c.in_ok-new_files.field-0.items c.in_ok-new_files.ensures.fresh known

pub returns-clause-room : goal.returns-clause-room
returns-clause-room c = λ name known. fresh_here (first c.args.room) (named (name_by clean_seen) name) (λ f. (clean_seen f).room) (Some c.args.room)
    (λ f fresh. ap (λ (s : Seen). s.room) fresh) c.in_ok-new_files.field-0.items c.in_ok-new_files.ensures.fresh known
