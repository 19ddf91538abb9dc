use Rattle.std.proofs.Common.{◌≡◌, ℕ, ◌∙◌}
use Rattle.cca_base.specs.RealFiles.{real_seen}
use Rattle.cca_base.specs.declared.system.known_file.KnownFile.{KnownFile}
use Rattle.cca_base.proofs.Entries.{named, found_any}
use Rattle.cca_base.proofs.Folders.{name_by, fresh_count}
use Rattle.cca_base.proofs.system.real_files.RealFiles.new.Goals as goal

-- as each file is at first
abbrev first : KnownFile → Type 0
first f = (f.load_faults ≡ 0) × (f.append_faults ≡ 0)

pub returns-clause-names : goal.returns-clause-names
returns-clause-names g c = λ name. found_any (named (name_by real_seen) name) c.in_ok-files.files.items ∙ c.in_ok-files.ensures.names name

pub returns-clause-faults : goal.returns-clause-faults
returns-clause-faults g c = λ name.
    let none = λ (count : KnownFile → ℕ) (zero_at : (f : KnownFile) → first f → count f ≡ 0). fresh_count first (named (name_by real_seen) name)
    count zero_at c.in_ok-files.files.items c.in_ok-files.ensures.fresh in (none (λ f. f.load_faults) (λ f fresh. fresh.0), none (λ f. f.append_faults) (λ f fresh. fresh.1))
