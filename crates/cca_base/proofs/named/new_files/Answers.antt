use Rattle.std.proofs.Common.{All, Global, List, String, Vec, [], ap, false, get_or, length, rules, string_bytes, subst, sym, take, true, ℕ, ◌++◌}
use Rattle.std.proofs.Common.{◌+◌, ◌<◌, ◌∙◌, ◌∷◌, ◌≡◌}
use Rattle.std.specs.List.{list_any}
use Rattle.std.proofs.lemmas.List.{take_all}
use Rattle.std.proofs.lemmas.List.Elements.{All-push}
use Rattle.cca_base.proofs.Entries.{AreNames, AreApart, named, names_kept, names_more, apart_more}
use Rattle.cca_base.proofs.named.new_files.Goals as goal
use Rattle.cca_base.proofs.named.new_files.Goals.{then-not-knows+in_ok-name+in_ok-with_name+in_ok-push, else-not-knows}

abbrev text_of : String Global → List ℕ
text_of s = string_bytes s

pub loop-name-preserved : goal.loop-name-preserved
loop-name-preserved g c =
    let name_of = λ (f : g.row.F.Denot). (g.F.Named.seen f).name in
    let fresh = λ (f : g.row.F.Denot). g.F.Named.seen f ≡ g.F.Named.first_seen (g.F.Named.seen f).name c.args.room in
    let kept = c.loop-name.invariant in
    let lt : c.loop-name.name-index < length c.args.names.now = search rules in
    let text_is : c.as_str.result.now ≡ text_of (get_or c.args.names.now c.loop-name.name-index c.name-item.result) = search rules in
    let known : c.knows.result ≡ list_any (named name_of (text_of (get_or c.args.names.now c.loop-name.name-index c.name-item.result)))
    c.loop-name.files.items = search rules in
    elim c.if-not-knows.branch [
      | then-not-knows+in_ok-name+in_ok-with_name+in_ok-push w ↦
          let file = w.in_ok-with_name.field-0 in
          let same : c.if-not-knows.files.items ≡ c.loop-name.files.items ++ file ∷ [] = ap (λ (v : Vec _ Global). v.items) w.files-is
          ∙ w.in_ok-push.ensures.items in
          let name_is : name_of file ≡ text_of (get_or c.args.names.now c.loop-name.name-index c.name-item.result) = search rules in
          let new_fresh : fresh file = search rules in
          let none : list_any (named name_of (text_of (get_or c.args.names.now c.loop-name.name-index c.name-item.result))) c.loop-name.files.items ≡ false =
          search rules in
          let new_name : list_any (named name_of (name_of file)) c.loop-name.files.items ≡ false = ap
          (λ (n : List ℕ). list_any (named name_of n) c.loop-name.files.items) name_is ∙ none in
          record {
            names = subst (λ (xs : List _). AreNames name_of text_of xs (take (c.loop-name.name-index + 1) c.args.names.now)) (sym same)
                (names_more name_of text_of c.loop-name.files.items file c.args.names.now c.loop-name.name-index c.name-item.result lt kept.names name_is);
            apart = subst (λ (xs : List _). AreApart name_of xs) (sym same) (apart_more name_of c.loop-name.files.items file kept.apart new_name);
            fresh = subst (λ (xs : List _). All fresh xs) (sym same) (All-push fresh c.loop-name.files.items file kept.fresh new_fresh);
          }
      | else-not-knows w ↦
          let there : list_any (named name_of (text_of (get_or c.args.names.now c.loop-name.name-index c.name-item.result))) c.loop-name.files.items ≡ true =
          search rules in
          let same : c.if-not-knows.files.items ≡ c.loop-name.files.items = ap (λ (v : Vec _ Global). v.items) w.files-is in
          record {
            names = subst (λ (xs : List _). AreNames name_of text_of xs (take (c.loop-name.name-index + 1) c.args.names.now)) (sym same)
                (names_kept name_of text_of c.loop-name.files.items c.args.names.now c.loop-name.name-index c.name-item.result lt kept.names there);
            apart = subst (λ (xs : List _). AreApart name_of xs) (sym same) kept.apart;
            fresh = subst (λ (xs : List _). All fresh xs) (sym same) kept.fresh;
          }
    ]

pub returns-clause-names : goal.returns-clause-names
returns-clause-names g c = λ q.
    let whole : take c.loop-name.name-index c.args.names.now ≡ c.args.names.now = take_all c.loop-name.name-index c.args.names.now (search rules) in
    c.loop-name.invariant.names q ∙ ap (λ (texts : List (String Global)). list_any (named text_of q) texts) whole
