-- A name that the map hasn't is a stranger's, and goes last.
use Rattle.std.proofs.Common.{◌≡◌, ◌∙◌, sym, ap, subst, not, true, false, map, string_bytes, String, List, ◌++◌, ◌∷◌, [], None, rules}
use Rattle.std.specs.Option.{is_some}
use Rattle.std.specs.Str.{bytes_eq}
use Rattle.std.specs.String.{string_eq}
use Rattle.std.specs.declared.alloc.Global.{Global}
use Rattle.indexmap.specs.IndexMap.{get_by, get, insert_entry}
use Rattle.auction_rules.specs.Terms.{Entrant}
use Rattle.award_file.specs.Award.{AreNamedApart, entrant_with, is_stranger, names_of}
use Rattle.award_file.specs.Fields.{entrant_value}
use Rattle.award_file.proofs.Names.{stranger-is, pushed, apart-more}
use Rattle.award_file.proofs.entrants.Entrants.push.Goals as goal

pub returns-then-contains_key-clause-stranger : goal.returns-then-contains_key-clause-stranger
returns-then-contains_key-clause-stranger c =
    let found : is_some (get_by (λ (k : String Global). bytes_eq (string_bytes c.args.name) (string_bytes k)) c.self.inside.by_name) ≡ true =
    rw (← c.as_str.ensures.value) (sym c.contains_key.ensures ∙ c.if-contains_key.true) in
    sym (ap (λ (bidders : List Entrant). is_stranger (string_bytes c.args.name) (names_of bidders)) (sym c.self.view_is)
    ∙ stranger-is c.self.inside.by_name (string_bytes c.args.name) ∙ ap not found)

new_name : (c : goal.Else-is_err) → is_stranger (string_bytes c.args.name) (names_of (map entrant_value c.self.inside.by_name.entries)) ≡ true
new_name c =
    let found : is_some (get_by (λ (k : String Global). bytes_eq (string_bytes c.args.name) (string_bytes k)) c.self.inside.by_name) ≡ false =
    rw (← c.as_str.ensures.value) (sym c.contains_key.ensures ∙ c.if-contains_key.false) in
    stranger-is c.self.inside.by_name (string_bytes c.args.name) ∙ ap not found

one_more : (c : goal.Else-is_err) → map entrant_value c.insert.new.self.entries ≡ map entrant_value c.self.inside.by_name.entries
    ++ entrant_with (string_bytes c.args.name) c.args.eligibility c.args.holding.items ∷ []
one_more c =
    let none : get string_eq c.self.inside.by_name c.args.name ≡ None = search rules in
    let entries : c.insert.new.self.entries ≡ insert_entry string_eq c.self.inside.by_name.entries c.args.name
    (record { eligibility = c.args.eligibility; holding = c.args.holding }) = search rules in
    pushed c.self.inside.by_name c.insert.new.self c.args.name (record { eligibility = c.args.eligibility; holding = c.args.holding }) none entries

pub returns-clause-stranger : goal.returns-clause-stranger
returns-clause-stranger c = sym (ap (λ (bidders : List Entrant). is_stranger (string_bytes c.args.name) (names_of bidders)) (sym c.self.view_is) ∙ new_name c)

pub invariant_of-self-2 : goal.invariant_of-self-2
invariant_of-self-2 c = subst AreNamedApart (sym (one_more c)) (apart-more (map entrant_value c.self.inside.by_name.entries)
    (entrant_with (string_bytes c.args.name) c.args.eligibility c.args.holding.items) c.self.invariant (new_name c))

pub returns-clause-apart : goal.returns-clause-apart
returns-clause-apart c = invariant_of-self-2 c

pub returns-clause-pushed : goal.returns-clause-pushed
returns-clause-pushed c = one_more c ∙ ap (λ (bidders : List Entrant). bidders ++ entrant_with (string_bytes c.args.name) c.args.eligibility
    c.args.holding.items ∷ []) c.self.view_is
