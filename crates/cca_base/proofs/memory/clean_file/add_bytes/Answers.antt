use Rattle.std.proofs.Common.{rules, arith, true, ◌≡◌, ◌+◌, ◌-◌, ◌≤◌, ◌<◌, ◌++◌, ℕ, List, get_or, length, Some, Option, IsSomeAnd, refl, sym, ap, subst, ◌∙◌}
use Rattle.std.specs.Option.{option_map_or, option_and_then}
use Rattle.cca_base.specs.Buffers.{held, left}
use Rattle.cca_base.specs.CleanFiles.{clean_seen}
use Rattle.cca_base.specs.declared.buffer.Buffer.{Buffer}
use Rattle.cca_base.specs.declared.memory.clean_file.CleanFile.{CleanFile}
use Rattle.cca_base.proofs.Entries.{set_changes, entry_here, views_same}
use Rattle.cca_base.proofs.Folders.{name_by, folder_keeps, folder_becomes, held_before, on_err}
use Rattle.cca_base.proofs.memory.clean_file.add_bytes.Goals as goal

pub returns-clause-added : goal.returns-clause-added
returns-clause-added c =
    let old = (get_or c.args.files.now c.place_of-place.result c.index-files-place.result).buffer in
    let added : held c.add.new.self ≡ held old ++ c.args.piece.now = search rules in
    let less : left c.add.new.self + length c.args.piece.now ≡ left old = search rules in
    let fits : length c.args.piece.now ≤ left old = omega (arith, less) in
    let room : left c.add.new.self ≡ left old - length c.args.piece.now = omega (arith, less) in
    let change = set_changes (name_by clean_seen) c.args.files.now c.args.name.now c.place_of-place.result c.index-files-place.result _ c.requires
    c.place_of-place.ensures.first refl in
    folder_becomes clean_seen true _ _ _ _ _ change _ (length c.args.piece.now) (ap Some added ∙ ap (λ (b : List ℕ). Some (b ++ c.args.piece.now))
    (held_before clean_seen true _ _ _ _ _ change)) fits (ap Some room)

pub returns-in_err-add-clause-full : goal.returns-in_err-add-clause-full
returns-in_err-add-clause-full c =
    let old = (get_or c.args.files.now c.place_of-place.result c.index-files-place.result).buffer in
    let full : left old < length c.args.piece.now = search rules in
    let here = entry_here (name_by clean_seen) c.args.files.now c.args.name.now c.place_of-place.result c.index-files-place.result c.requires
    c.place_of-place.ensures.first in
    on_err c.from_residual.result (subst (λ (o : Option CleanFile). IsSomeAnd (option_and_then (λ (f : CleanFile). Some (left f.buffer)) o)
    (λ r. r < length c.args.piece.now)) (sym here) full)

pub returns-clause-appends : goal.returns-clause-appends
returns-clause-appends c =
    let count : Option CleanFile → ℕ = λ o. option_map_or (λ (f : CleanFile). f.append_faults) o 0 in
    views_same count _ _ _ _ _ (set_changes (name_by clean_seen) c.args.files.now c.args.name.now c.place_of-place.result c.index-files-place.result _
    c.requires c.place_of-place.ensures.first refl) refl

pub returns-clause-loads : goal.returns-clause-loads
returns-clause-loads c =
    let count : Option CleanFile → ℕ = λ o. option_map_or (λ (f : CleanFile). f.load_faults) o 0 in
    views_same count _ _ _ _ _ (set_changes (name_by clean_seen) c.args.files.now c.args.name.now c.place_of-place.result c.index-files-place.result _
    c.requires c.place_of-place.ensures.first refl) refl

pub returns-in_err-add-clause-appends : goal.returns-in_err-add-clause-appends
returns-in_err-add-clause-appends c =
    let count : Option CleanFile → ℕ = λ o. option_map_or (λ (f : CleanFile). f.append_faults) o 0 in
    views_same count _ _ _ _ _ (set_changes (name_by clean_seen) c.args.files.now c.args.name.now c.place_of-place.result c.index-files-place.result _
    c.requires c.place_of-place.ensures.first refl) refl

pub returns-in_err-add-clause-loads : goal.returns-in_err-add-clause-loads
returns-in_err-add-clause-loads c =
    let count : Option CleanFile → ℕ = λ o. option_map_or (λ (f : CleanFile). f.load_faults) o 0 in
    views_same count _ _ _ _ _ (set_changes (name_by clean_seen) c.args.files.now c.args.name.now c.place_of-place.result c.index-files-place.result _
    c.requires c.place_of-place.ensures.first refl) refl

pub returns-in_err-add-clause-kept : goal.returns-in_err-add-clause-kept
returns-in_err-add-clause-kept c =
    let same : c.add.new.self ≡ (get_or c.args.files.now c.place_of-place.result c.index-files-place.result).buffer = search rules in
    on_err c.from_residual.result (folder_keeps clean_seen true _ _ _ _ _ (set_changes (name_by clean_seen) c.args.files.now c.args.name.now
    c.place_of-place.result c.index-files-place.result _ c.requires c.place_of-place.ensures.first refl) (ap (λ (b : Buffer). Some (held b)) same)
    (ap (λ (b : Buffer). Some (left b)) same))
