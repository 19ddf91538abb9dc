use Rattle.std.proofs.Common.{◌≡◌, ◌++◌, ◌∷◌, ◌∙◌, ◌<◌, ◌+◌, [], ap, rules, take, get_or, length, string_bytes, subst, sym, All, List, String, Global, ℕ}
use Rattle.std.specs.List.{list_any}
use Rattle.std.proofs.lemmas.List.{take_all}
use Rattle.std.proofs.lemmas.List.Elements.{All-push}
use Rattle.cca_base.specs.declared.system.known_file.KnownFile.{KnownFile}
use Rattle.cca_base.proofs.Entries.{AreNames, named, names_more}
use Rattle.cca_base.proofs.system.known_file.known_files.Goals as goal

abbrev name_of : KnownFile → List ℕ
name_of f = string_bytes f.name

abbrev text_of : String Global → List ℕ
text_of s = string_bytes s

pub loop-name-preserved : goal.loop-name-preserved
loop-name-preserved c =
    let kept = c.loop-name.invariant in
    let file = c.in_ok-with_name.field-0 in
    let lt : c.loop-name.name-index < length c.args.names.now = search rules in
    let same : c.push.new.self.items ≡ c.loop-name.files.items ++ file ∷ [] = c.in_ok-push.ensures.items in
    let name_is : name_of file ≡ text_of (get_or c.args.names.now c.loop-name.name-index c.name-item.result) = search rules in
    let new_fresh : (file.load_faults ≡ 0) × (file.append_faults ≡ 0) = search rules in
    record {
      names = subst (λ (xs : List KnownFile). AreNames name_of text_of xs (take (c.loop-name.name-index + 1) c.args.names.now)) (sym same)
          (names_more name_of text_of c.loop-name.files.items file c.args.names.now c.loop-name.name-index c.name-item.result lt kept.names name_is);
      fresh = subst (λ (xs : List KnownFile). All (λ f. (f.load_faults ≡ 0) × (f.append_faults ≡ 0)) xs) (sym same)
          (All-push (λ (f : KnownFile). (f.load_faults ≡ 0) × (f.append_faults ≡ 0)) c.loop-name.files.items file kept.fresh new_fresh);
    }

pub returns-clause-names : goal.returns-clause-names
returns-clause-names c = λ q.
    let whole : take c.loop-name.name-index c.args.names.now ≡ c.args.names.now = take_all c.loop-name.name-index c.args.names.now (search rules) in
    c.loop-name.invariant.names q ∙ ap (λ (texts : List (String Global)). list_any (named text_of q) texts) whole
