-- The parts of a placement certificate, one by one.
use Rattle.std.proofs.Common.{◌≡◌, ℕ, suc, zero, ◌+◌, ◌≤◌, ◌<◌, List, [], ◌∷◌, ◌++◌, length, get_or, drop, refl, sym, ap, subst, ◌∙◌, arith, append_assoc}
use Rattle.std.specs.Prelude.{pos}
use Rattle.std.proofs.lemmas.List.{append-nil, drop_more}
use Rattle.cert_grammar.specs.Lines.{Kind, Line, ordered_part_plan, ordered_parts_plan, unless_zero}
use Rattle.cert_grammar.specs.CertText.{as_numbers}
use Rattle.cert_text.specs.Readers.{Leads, Halts}
use Rattle.cert_text.specs.declared.stop.CertStop.{CertStop}
use Rattle.cert_text.proofs.PlanSteps.{leads_none, leads_on, leads_before, halts_before, halts_later}
use Rattle.placement_cert.specs.Parts.{part_value, part_order, AreParts}
use Rattle.placement_cert.specs.PlaceReads.{own_part, part_lines, AddsPart}
use Rattle.placement_cert.specs.PlaceText.{IsOrderedWithout}
use Rattle.placement_cert.specs.declared.certificate.PlaceWithout.{PlaceWithout}

module _ (bytes : List ℕ) (place bidders j : ℕ) where
  -- a loser has no part
  pub part_loser : (number : ℕ) (old : List PlaceWithout) → number ≡ 0 → AddsPart bytes place bidders j number old old place
  part_loser number old e = subst (λ (n : ℕ). AddsPart bytes place bidders j n old old place) (sym e)
      (record { part = []; added = sym (append-nil old); leads = leads_none bytes place []; are = λ ns rest h. h })

  -- a winner has one
  pub part_winner : (number : ℕ) (old : List PlaceWithout) (p : PlaceWithout) (next : ℕ) → 0 < number
      → Leads bytes place (ordered_part_plan bidders j) next [] (own_part p) → IsOrderedWithout bidders j (part_value p) (part_order p)
      → AddsPart bytes place bidders j number old (old ++ p ∷ []) next
  part_winner zero old p next some read is = absurd (omega (arith, some))
  part_winner (suc n) old p next some read is = record {
    part = p ∷ [];
    added = refl;
    leads = subst (λ (l : List Line). Leads bytes place (ordered_part_plan bidders j) next [] l) (sym (append-nil (own_part p))) read;
    are = λ ns rest h. (is, h);
  }

-- the parts of the first bidders are read
pub record PartsSoFar (bytes : List ℕ) (place bidders : ℕ) (choice : List ℕ) (done next : ℕ) (parts : List PlaceWithout) : Type 0 where
  pub leads : Leads bytes place (ordered_parts_plan bidders 1 (as_numbers choice)) next
      (ordered_parts_plan bidders (suc done) (as_numbers (drop done choice))) (part_lines parts)
  pub are : (rest : List PlaceWithout) → AreParts bidders (suc done) (drop done choice) rest → AreParts bidders 1 choice (parts ++ rest)
  pub within : next ≤ length bytes

-- the lines of parts and more parts
lines_both : (ws vs : List PlaceWithout) → part_lines (ws ++ vs) ≡ part_lines ws ++ part_lines vs
lines_both [] vs = refl
lines_both (w ∷ ws) vs = ap (λ (l : List Line). own_part w ++ l) (lines_both ws vs) ∙ sym (append_assoc (own_part w) (part_lines ws) (part_lines vs))

-- nothing is after the end
drop_all : (xs : List ℕ) (n : ℕ) → length xs ≤ n → drop n xs ≡ []
drop_all [] zero le = refl
drop_all [] (suc n) le = refl
drop_all (x ∷ xs) zero le = absurd (omega (arith, le))
drop_all (x ∷ xs) (suc n) le = drop_all xs n (omega (arith, le))

module _ (bytes : List ℕ) (place bidders : ℕ) (choice : List ℕ) where
  abbrev whole : List Kind
  whole = ordered_parts_plan bidders 1 (as_numbers choice)

  abbrev left_from : ℕ → List ℕ → List Kind
  left_from done ns = ordered_parts_plan bidders (suc done) (as_numbers ns)

  abbrev part_at : ℕ → List Kind
  part_at done = unless_zero (pos (get_or choice done 0)) (ordered_part_plan bidders (suc done))

  here : (done next : ℕ) (parts : List PlaceWithout) → done < length choice → PartsSoFar bytes place bidders choice done next parts
      → Leads bytes place whole next (part_at done ++ left_from (suc done) (drop (done + 1) choice)) (part_lines parts)
  here done next parts lt h = subst (λ (ns : List ℕ). Leads bytes place whole next (left_from done ns) (part_lines parts)) (drop_more choice done 0 lt) h.leads

  -- one bidder more
  pub parts_more : (done next : ℕ) (parts : List PlaceWithout) (j number : ℕ) (new : List PlaceWithout) (last : ℕ) → done < length choice
      → PartsSoFar bytes place bidders choice done next parts → j ≡ done + 1 → number ≡ get_or choice done 0
      → AddsPart bytes next bidders j number parts new last → last ≤ length bytes → PartsSoFar bytes place bidders choice (done + 1) last new
  parts_more done next parts j number new last lt h ej en adds within =
      let ej2 : j ≡ suc done = omega (arith, ej) in
      go (subst (λ (k : ℕ). AddsPart bytes next bidders k (get_or choice done 0) parts new last) ej2
      (subst (λ (n : ℕ). AddsPart bytes next bidders j n parts new last) en adds))
    where
      same : suc done ≡ done + 1
      same = omega arith

      go : AddsPart bytes next bidders (suc done) (get_or choice done 0) parts new last → PartsSoFar bytes place bidders choice (done + 1) last new
      go a = record {
        leads = subst (λ (l : List Line). Leads bytes place whole last (left_from (done + 1) (drop (done + 1) choice)) l)
            (sym (ap part_lines a.added ∙ lines_both parts a.part))
            (subst (λ (d : ℕ). Leads bytes place whole last (left_from d (drop (done + 1) choice)) (part_lines parts ++ part_lines a.part)) same
            (leads_on bytes place whole next (part_at done ++ left_from (suc done) (drop (done + 1) choice)) (part_lines parts) last
            (left_from (suc done) (drop (done + 1) choice)) (part_lines a.part) (here done next parts lt h)
            (leads_before bytes next (part_at done) last [] (part_lines a.part) (left_from (suc done) (drop (done + 1) choice)) a.leads)));
        are = λ rest r. subst (λ (ws : List PlaceWithout). AreParts bidders 1 choice ws)
            (sym (ap (λ (ws : List PlaceWithout). ws ++ rest) a.added ∙ append_assoc parts a.part rest))
            (h.are (a.part ++ rest) (subst (λ (ns : List ℕ). AreParts bidders (suc done) ns (a.part ++ rest)) (sym (drop_more choice done 0 lt))
            (a.are (drop (done + 1) choice) rest (subst (λ (d : ℕ). AreParts bidders (suc d) (drop (done + 1) choice) rest) (sym same) r))));
        within = within;
      }

  -- the next part isn't there
  pub parts_halts : (done next : ℕ) (parts : List PlaceWithout) (j number : ℕ) (stop : CertStop) → done < length choice
      → PartsSoFar bytes place bidders choice done next parts → j ≡ done + 1 → number ≡ get_or choice done 0
      → Halts bytes next (unless_zero (pos number) (ordered_part_plan bidders j)) stop → Halts bytes place whole stop
  parts_halts done next parts j number stop lt h ej en halt =
      let ej2 : j ≡ suc done = omega (arith, ej) in
      halts_later bytes place whole next (part_at done ++ left_from (suc done) (drop (done + 1) choice)) (part_lines parts) stop (here done next parts lt h)
      (halts_before bytes next (part_at done) stop (left_from (suc done) (drop (done + 1) choice))
      (subst (λ (k : ℕ). Halts bytes next (unless_zero (pos (get_or choice done 0)) (ordered_part_plan bidders k)) stop) ej2
      (subst (λ (n : ℕ). Halts bytes next (unless_zero (pos n) (ordered_part_plan bidders j)) stop) en halt)))

  -- all parts are read
  pub parts_done : (done next : ℕ) (parts : List PlaceWithout) → length choice ≤ done → PartsSoFar bytes place bidders choice done next parts
      → Leads bytes place whole next [] (part_lines parts) × AreParts bidders 1 choice parts
  parts_done done next parts le h =
      let none : drop done choice ≡ [] = drop_all choice done le in (
        subst (λ (ns : List ℕ). Leads bytes place whole next (left_from done ns) (part_lines parts)) none h.leads,
        subst (λ (ws : List PlaceWithout). AreParts bidders 1 choice ws) (append-nil parts)
            (h.are [] (subst (λ (ns : List ℕ). AreParts bidders (suc done) ns []) (sym none) tt)),
      )
