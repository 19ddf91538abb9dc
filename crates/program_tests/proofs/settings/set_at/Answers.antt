use Rattle.std.proofs.Common.{◌≡◌, ◌∙◌, Bool, List, ℕ, string_bytes, map, get_or, length, ap, sym, subst, ◌<◌}
use Rattle.std.proofs.lemmas.List.{get_or-map, length-map}
use Rattle.cca_base.specs.MemFiles.{mem_folder}
use Rattle.program_tests.proofs.settings.set_at.Goals as goal

pub set-requires : goal.set-requires
set-requires c =
    let words = c.args.words.now in
    let place = c.args.place in
    let name = c.as_str.result.now in
    let at : get_or (map string_bytes words) place name ≡ name = get_or-map string_bytes words place c.index-words-place.result name c.requires.place
    ∙ (ap string_bytes (sym c.index-words-place.is) ∙ sym c.as_str.ensures.value) in
    let within : place < length (map string_bytes words) = subst (λ (n : ℕ). place < n) (sym (length-map words string_bytes)) c.requires.place in
    ap (mem_folder c.args.files.now.files.items).knows (sym at) ∙ c.requires.known place name within

pub returns : goal.returns
returns c = λ k d h.
    let name = get_or (map string_bytes c.args.words.now) k d in
    ap (λ (knows : List ℕ → Bool). knows name) c.in_ok-set.ensures.file.knows ∙ c.requires.known k d h
