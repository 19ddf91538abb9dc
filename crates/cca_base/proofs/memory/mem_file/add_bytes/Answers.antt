use Rattle.std.proofs.Common.{rules, true, ◌≡◌, ◌++◌, ℕ, List, unwrap_or, get_or, length, [], Some, Option, refl, ap, ◌∙◌}
use Rattle.std.specs.Option.{option_map_or}
use Rattle.cca_base.specs.MemFiles.{bytes_in, mem_seen}
use Rattle.cca_base.specs.declared.memory.mem_file.MemFile.{MemFile}
use Rattle.cca_base.proofs.Entries.{set_changes, views_same}
use Rattle.cca_base.proofs.Folders.{name_by, folder_keeps, folder_becomes, held_before, no_room, on_err}
use Rattle.cca_base.proofs.memory.mem_file.add_bytes.Goals as goal

pub returns-clause-added : goal.returns-clause-added
returns-clause-added c =
    let added : bytes_in c.extend.new.bytes ≡ Some (unwrap_or (bytes_in (get_or c.args.files.now c.place_of-place.result c.index-files-place.result).bytes) []
    ++ c.args.piece.now) = search rules in
    let change = set_changes (name_by mem_seen) c.args.files.now c.args.name.now c.place_of-place.result c.index-files-place.result _ c.requires
    c.place_of-place.ensures.first refl in
    folder_becomes mem_seen true _ _ _ _ _ change _ (length c.args.piece.now) (added ∙ ap (λ (b : List ℕ). Some (b ++ c.args.piece.now))
    (held_before mem_seen true _ _ _ _ _ change)) (no_room (length c.args.piece.now)) refl

pub returns-in_err-extend-clause-kept : goal.returns-in_err-extend-clause-kept
returns-in_err-extend-clause-kept c =
    let kept : bytes_in c.extend.new.bytes ≡ bytes_in (get_or c.args.files.now c.place_of-place.result c.index-files-place.result).bytes = search rules in
    on_err c.from_residual.result (folder_keeps mem_seen true _ _ _ _ _ (set_changes (name_by mem_seen) c.args.files.now c.args.name.now
    c.place_of-place.result c.index-files-place.result _ c.requires c.place_of-place.ensures.first refl) kept refl)

pub returns-clause-appends : goal.returns-clause-appends
returns-clause-appends c =
    let count : Option MemFile → ℕ = λ o. option_map_or (λ (f : MemFile). f.append_faults) o 0 in
    views_same count _ _ _ _ _ (set_changes (name_by mem_seen) c.args.files.now c.args.name.now c.place_of-place.result c.index-files-place.result _
    c.requires c.place_of-place.ensures.first refl) refl

pub returns-clause-loads : goal.returns-clause-loads
returns-clause-loads c =
    let count : Option MemFile → ℕ = λ o. option_map_or (λ (f : MemFile). f.load_faults) o 0 in
    views_same count _ _ _ _ _ (set_changes (name_by mem_seen) c.args.files.now c.args.name.now c.place_of-place.result c.index-files-place.result _
    c.requires c.place_of-place.ensures.first refl) refl

pub returns-in_err-extend-clause-appends : goal.returns-in_err-extend-clause-appends
returns-in_err-extend-clause-appends c =
    let count : Option MemFile → ℕ = λ o. option_map_or (λ (f : MemFile). f.append_faults) o 0 in
    views_same count _ _ _ _ _ (set_changes (name_by mem_seen) c.args.files.now c.args.name.now c.place_of-place.result c.index-files-place.result _
    c.requires c.place_of-place.ensures.first refl) refl

pub returns-in_err-extend-clause-loads : goal.returns-in_err-extend-clause-loads
returns-in_err-extend-clause-loads c =
    let count : Option MemFile → ℕ = λ o. option_map_or (λ (f : MemFile). f.load_faults) o 0 in
    views_same count _ _ _ _ _ (set_changes (name_by mem_seen) c.args.files.now c.args.name.now c.place_of-place.result c.index-files-place.result _
    c.requires c.place_of-place.ensures.first refl) refl
