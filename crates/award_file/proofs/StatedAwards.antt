-- What the bytes of an award file state is a lawful award.
use Rattle.std.proofs.Common.{◌≡◌, ℕ, ◌≤◌, true, List, [], ◌∷◌, ◌++◌, length, map, Option, Some, None, refl, sym, ap, subst, arith, append_assoc}
use Rattle.std.specs.Prelude.{not, is_some, unwrap_or}
use Rattle.std.specs.List.{IsDistinct, list_any}
use Rattle.std.specs.Str.{bytes_eq}
use Rattle.std.proofs.lemmas.Bool.{false≢true, not-true}
use Rattle.std.proofs.lemmas.Bool.Decides.{nat_tests}
use Rattle.std.proofs.lemmas.List.{append-nil}
use Rattle.std.proofs.lemmas.Map.Keys.{IsDistinct-push, IsDistinct-from_apart}
use Rattle.std.specs.Cmp.Lexicographic.{nat_list_eq_equiv}
use Rattle.toml.specs.Data.{Members}
use Rattle.book_grammar.specs.BookLines.{Excess, supply_excess}
use Rattle.bid_book.proofs.SupplyLaws.{none_first, none_second, supply_kept}
use Rattle.auction_rules.specs.Terms.{Terms}
use Rattle.award_file.specs.Award.{AreNamedApart, IsAward, is_stranger, names_of}
use Rattle.award_file.specs.Reading.{IsStated, bidders_excess, reading, reading_after, reading_of, reading_within, stated_table, stated_terms, terms_excess}
use Rattle.award_file.specs.Stated.{has_other, name_at}
use Rattle.award_file.specs.Walk as walk
use Rattle.award_file.specs.Walk.{Fault, award_fault, bidder_fault, entry_after, is_new, name_or_none, tables_fault, terms_of}
use Rattle.award_file.proofs.AwardLaws.{award-of, names-of, offer-of}
use Rattle.award_file.proofs.FaultLaws.{four-hold}

-- ---- names

new-name : (before : List (List ℕ)) (found : Option (List ℕ)) → is_new before found ≡ true → is_stranger (unwrap_or found []) before ≡ true
new-name before None h = absurd (false≢true h)
new-name before (Some name) h = h

-- if each name of tables is new, no name occurs twice
names-apart : (n : ℕ) (before : List (List ℕ)) (ts : List Members) → IsDistinct bytes_eq before
    → tables_fault (bidder_fault n) name_or_none before ts ≡ None → IsDistinct bytes_eq (before ++ map name_or_none ts)
names-apart n before [] apart h = subst (λ names. IsDistinct bytes_eq names) (sym (append-nil before)) apart
names-apart n before (t ∷ ts) apart h =
    let later = tables_fault (bidder_fault n) name_or_none (before ++ name_or_none t ∷ []) ts in
    let all = four-hold (is_new before (name_at t)) (is_some (walk.eligibility_at t)) (is_some (walk.holding_at n t))
    (not (has_other walk.bidder_keys t)) 9 10 11 18 (entry_after (length before)) (none_first (bidder_fault n before t) later h) in
    let stranger : is_stranger (name_or_none t) before ≡ true = new-name before (name_at t) all.0 in
    let more = IsDistinct-push nat_list_eq_equiv before (name_or_none t) apart (not-true (list_any (bytes_eq (name_or_none t)) before) stranger) in
    subst (λ names. IsDistinct bytes_eq names) (append_assoc before (name_or_none t ∷ []) (map name_or_none ts))
    (names-apart n (before ++ name_or_none t ∷ []) ts more (none_second (bidder_fault n before t) later h))

entrant-names : (n : ℕ) (ts : List Members) → names_of (map (walk.entrant_of n) ts) ≡ map name_or_none ts
entrant-names n [] = refl
entrant-names n (t ∷ ts) = ap (λ (names : List (List ℕ)). name_or_none t ∷ names) (entrant-names n ts)

no-names : IsDistinct bytes_eq []
no-names = IsDistinct-from_apart bytes_eq [] (λ i j d less inside. absurd (omega arith))

-- the bidders of a table without a fault have names of their own
bidders-apart : (t : Members) → award_fault t ≡ None → AreNamedApart (terms_of t).bidders
bidders-apart t passes =
    let n = walk.category_count t in
    let tables = unwrap_or (walk.bidders_at t) [] in
    subst (λ names. IsDistinct bytes_eq names) (sym (entrant-names n tables)) (names-apart n [] tables no-names (names-of t passes))

-- ---- the whole

few-bidders : (n : ℕ) → bidders_excess n ≡ None → n ≤ 16
few-bidders n none = grind (arith, nat_tests)

-- a table without a fault, whose terms exceed no limit, states a lawful award
award-of_table : (t : Members) → award_fault t ≡ None → terms_excess (terms_of t) ≡ None → IsAward (terms_of t)
award-of_table t passes within =
    let terms = terms_of t in
    let others = bidders_excess (length terms.bidders) in
    award-of t passes
    (supply_kept terms.supply (offer-of t passes) (none_first (supply_excess terms.supply) others within))
    (few-bidders (length terms.bidders) (none_second (supply_excess terms.supply) others within))
    (bidders-apart t passes)

-- stated terms that exceed no limit keep what an award keeps
pub award-stated : (terms : Terms) → IsStated terms → terms_excess terms ≡ None → IsAward terms
award-stated terms h within =
    subst (λ (x : Terms). terms_excess x ≡ None → IsAward x) h.is (award-of_table h.stated h.passes) within

-- ---- readings

within-states : (excess : Option Excess) (t terms : Terms) → reading_within excess t ≡ stated_terms terms → (excess ≡ None) × (t ≡ terms)
within-states None t terms h = (refl, cc h)
within-states (Some excess) t terms h = absurd (cc h)

after-states : (fault : Option Fault) (t terms : Terms) → reading_after fault t ≡ stated_terms terms
    → (fault ≡ None) × (terms_excess t ≡ None) × (t ≡ terms)
after-states None t terms h = let rest = within-states (terms_excess t) t terms h in (refl, rest.0, rest.1)
after-states (Some fault) t terms h = absurd (cc h)

table-states : (found : Option Members) (terms : Terms) → reading_of found ≡ stated_terms terms → IsAward terms
table-states None terms h = absurd (cc h)
table-states (Some t) terms h =
    let parts = after-states (award_fault t) (terms_of t) terms h in
    subst IsAward parts.2 (award-of_table t parts.0 parts.1)

-- bytes that state terms state a lawful award
pub award-read : (bytes : List ℕ) (terms : Terms) → reading bytes ≡ stated_terms terms → IsAward terms
award-read bytes terms h = table-states (stated_table bytes) terms h
