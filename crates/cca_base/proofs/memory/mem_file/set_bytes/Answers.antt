use Rattle.std.proofs.Common.{ℕ, true, Option, refl}
use Rattle.std.specs.Option.{option_map_or}
use Rattle.cca_base.specs.MemFiles.{mem_seen}
use Rattle.cca_base.specs.declared.memory.mem_file.MemFile.{MemFile}
use Rattle.cca_base.proofs.Entries.{set_changes, views_same}
use Rattle.cca_base.proofs.Folders.{name_by, folder_becomes, no_room}
use Rattle.cca_base.proofs.memory.mem_file.set_bytes.Goals as goal

pub returns-clause-set : goal.returns-clause-set
returns-clause-set c = folder_becomes mem_seen true _ _ _ _ _ (set_changes (name_by mem_seen) c.args.files.now c.args.name.now c.place_of-place.result
    c.index-files-place.result _ c.requires c.place_of-place.ensures.first refl) _ 0 refl (no_room 0) refl

pub returns-clause-loads : goal.returns-clause-loads
returns-clause-loads c =
    let count : Option MemFile → ℕ = λ o. option_map_or (λ (f : MemFile). f.load_faults) o 0 in
    views_same count _ _ _ _ _ (set_changes (name_by mem_seen) c.args.files.now c.args.name.now c.place_of-place.result c.index-files-place.result _
    c.requires c.place_of-place.ensures.first refl) refl

pub returns-clause-appends : goal.returns-clause-appends
returns-clause-appends c =
    let count : Option MemFile → ℕ = λ o. option_map_or (λ (f : MemFile). f.append_faults) o 0 in
    views_same count _ _ _ _ _ (set_changes (name_by mem_seen) c.args.files.now c.args.name.now c.place_of-place.result c.index-files-place.result _
    c.requires c.place_of-place.ensures.first refl) refl
