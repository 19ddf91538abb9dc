-- The parts of a certificate, one by one.
use Rattle.std.proofs.Common.{◌≡◌, ℕ, suc, zero, ◌+◌, ◌≤◌, ◌<◌, List, [], ◌∷◌, ◌++◌, length, get_or, drop, refl, sym, ap, subst, ◌∙◌, arith, append_assoc}
use Rattle.std.specs.Prelude.{ℤ, pos, codes, map}
use Rattle.std.proofs.lemmas.List.{append-nil, drop_more}
use Rattle.cert_grammar.specs.Certificate.{WithoutValue}
use Rattle.cert_grammar.specs.Lines.{Line, Kind, kind, these, chosen, table_plan, part_plan, parts_plan, unless_zero}
use Rattle.cert_grammar.specs.CertText.{line, choice_line, table_lines, part_lines, as_numbers, IsWithout, AreWithouts}
use Rattle.cert_text.specs.declared.certificate.WithoutPart.{WithoutPart}
use Rattle.cert_text.specs.Parts.{without_value}
use Rattle.cert_text.specs.PartReads.{without_kind, own_lines, AddsPart}
use Rattle.cert_text.specs.Readers.{AreChosen, Leads, Halts, LeadsChosen, HaltsChosen}
use Rattle.cert_text.specs.declared.stop.CertStop.{CertStop}
use Rattle.cert_text.proofs.PlanSteps.{leads_none, leads_on, leads_before, leads_then, halts_before, halts_later, halts_then}

-- the numbers of a part's choice are those of a choice
pub plain_choice : (bidders : ℕ) → AreChosen bidders (chosen bidders)
plain_choice bidders = record { to = λ ns f. f; from = λ ns f. f }

abbrev choice_kind : ℕ → Kind
choice_kind bidders = kind (codes "choice") (chosen bidders)

abbrev table_kind : Kind
table_kind = kind (codes "table") (these [])

module _ (bytes : List ℕ) (place bidders states j : ℕ) where
  -- the three pieces of a part
  pub part_done : (n1 : ℕ) (choice : List ℕ) (n2 : ℕ) (table : List (List ℤ)) (n3 : ℕ) → Leads bytes place (without_kind j ∷ []) n1 []
      (line (codes "without") (pos j ∷ []) ∷ []) → LeadsChosen bytes n1 bidders n2 choice
      → Leads bytes n2 (table_kind ∷ table_plan bidders states) n3 [] (line (codes "table") [] ∷ table_lines table)
      → Leads bytes place (part_plan bidders states j) n3 [] (own_lines (record { winner = j; choice = choice; table = table }))
  part_done n1 choice n2 table n3 a b c =
      leads_then bytes place (without_kind j ∷ []) n1 (line (codes "without") (pos j ∷ []) ∷ [])
      (choice_kind bidders ∷ table_kind ∷ table_plan bidders states) n3 (choice_line choice ∷ line (codes "table") [] ∷ table_lines table) a
      (leads_then bytes n1 (choice_kind bidders ∷ []) n2 (choice_line choice ∷ []) (table_kind ∷ table_plan bidders states) n3
      (line (codes "table") [] ∷ table_lines table) (b (chosen bidders) (plain_choice bidders)) c)

  -- halts if the line that names the winner isn't there
  pub part_first : (stop : CertStop) → Halts bytes place (without_kind j ∷ []) stop → Halts bytes place (part_plan bidders states j) stop
  part_first stop h = halts_before bytes place (without_kind j ∷ []) stop (choice_kind bidders ∷ table_kind ∷ table_plan bidders states) h

  -- halts at the choice, after the line that names the winner
  pub part_second : (n1 : ℕ) (stop : CertStop) → Leads bytes place (without_kind j ∷ []) n1 [] (line (codes "without") (pos j ∷ []) ∷ [])
      → HaltsChosen bytes n1 bidders stop → Halts bytes place (part_plan bidders states j) stop
  part_second n1 stop a h = halts_then bytes place (without_kind j ∷ []) n1 (line (codes "without") (pos j ∷ []) ∷ [])
      (choice_kind bidders ∷ table_kind ∷ table_plan bidders states) stop a
      (halts_before bytes n1 (choice_kind bidders ∷ []) stop (table_kind ∷ table_plan bidders states) (h (chosen bidders) (plain_choice bidders)))

  -- halts in the table, after the choice
  pub part_third : (n1 : ℕ) (choice : List ℕ) (n2 : ℕ) (stop : CertStop) → Leads bytes place (without_kind j ∷ []) n1 []
      (line (codes "without") (pos j ∷ []) ∷ []) → LeadsChosen bytes n1 bidders n2 choice → Halts bytes n2 (table_kind ∷ table_plan bidders states) stop
      → Halts bytes place (part_plan bidders states j) stop
  part_third n1 choice n2 stop a b h = halts_then bytes place (without_kind j ∷ []) n1 (line (codes "without") (pos j ∷ []) ∷ [])
      (choice_kind bidders ∷ table_kind ∷ table_plan bidders states) stop a
      (halts_then bytes n1 (choice_kind bidders ∷ []) n2 (choice_line choice ∷ []) (table_kind ∷ table_plan bidders states) stop
      (b (chosen bidders) (plain_choice bidders)) h)

  -- a loser has no part
  pub part_loser : (number : ℕ) (old : List WithoutPart) → number ≡ 0 → AddsPart bytes place bidders states j number old old place
  part_loser number old e = subst (λ (n : ℕ). AddsPart bytes place bidders states j n old old place) (sym e)
      (record { part = []; added = sym (append-nil (map without_value old)); leads = leads_none bytes place []; are = λ ns rest h. h })

  map_more : (old : List WithoutPart) (p : WithoutPart) → map without_value (old ++ p ∷ []) ≡ map without_value old ++ without_value p ∷ []
  map_more [] p = refl
  map_more (o ∷ old) p = ap (λ (l : List WithoutValue). without_value o ∷ l) (map_more old p)

  -- the part of a winner is read and follows the others
  pub part_winner : (number : ℕ) (old : List WithoutPart) (p : WithoutPart) (next : ℕ) → 0 < number → Leads bytes place (part_plan bidders states j) next []
      (own_lines (without_value p)) → IsWithout bidders states j (without_value p) → AddsPart bytes place bidders states j number old (old ++ p ∷ []) next
  part_winner zero old p next some read is = absurd (omega (arith, some))
  part_winner (suc n) old p next some read is = record {
    part = without_value p ∷ [];
    added = map_more old p;
    leads = subst (λ (l : List Line). Leads bytes place (part_plan bidders states j) next [] l) (sym (append-nil (own_lines (without_value p)))) read;
    are = λ ns rest h. (is, h);
  }

-- the parts of the first bidders are read
pub record PartsSoFar (bytes : List ℕ) (place bidders states : ℕ) (choice : List ℕ) (done next : ℕ) (parts : List WithoutPart) : Type 0 where
  pub leads : Leads bytes place (parts_plan bidders states 1 (as_numbers choice)) next (parts_plan bidders states (suc done) (as_numbers (drop done choice)))
      (part_lines (map without_value parts))
  pub are : (rest : List WithoutValue) → AreWithouts bidders states (suc done) (drop done choice) rest
      → AreWithouts bidders states 1 choice (map without_value parts ++ rest)
  pub within : next ≤ length bytes

lines_both : (ws vs : List WithoutValue) → part_lines (ws ++ vs) ≡ part_lines ws ++ part_lines vs
lines_both [] vs = refl
lines_both (w ∷ ws) vs = ap (λ (l : List Line). own_lines w ++ l) (lines_both ws vs) ∙ sym (append_assoc (own_lines w) (part_lines ws) (part_lines vs))

module _ (bytes : List ℕ) (place bidders states : ℕ) (choice : List ℕ) where
  abbrev left_from : ℕ → List ℕ → List Kind
  left_from done ns = parts_plan bidders states (suc done) (as_numbers ns)

  here : (done next : ℕ) (parts : List WithoutPart) → done < length choice → PartsSoFar bytes place bidders states choice done next parts
      → Leads bytes place (parts_plan bidders states 1 (as_numbers choice)) next
      (unless_zero (pos (get_or choice done 0)) (part_plan bidders states (suc done)) ++ left_from (suc done) (drop (done + 1) choice))
      (part_lines (map without_value parts))
  here done next parts lt h = subst (λ (ns : List ℕ). Leads bytes place (parts_plan bidders states 1 (as_numbers choice)) next (left_from done ns)
      (part_lines (map without_value parts))) (drop_more choice done 0 lt) h.leads

  -- one bidder more, with a part if it wins
  pub parts_more : (done next : ℕ) (parts : List WithoutPart) (j number : ℕ) (new : List WithoutPart) (last : ℕ) → done < length choice
      → PartsSoFar bytes place bidders states choice done next parts → j ≡ done + 1 → number ≡ get_or choice done 0
      → AddsPart bytes next bidders states j number parts new last → last ≤ length bytes → PartsSoFar bytes place bidders states choice (done + 1) last new
  parts_more done next parts j number new last lt h ej en adds within =
      let ej2 : j ≡ suc done = omega (arith, ej) in
      go (subst (λ (k : ℕ). AddsPart bytes next bidders states k (get_or choice done 0) parts new last) ej2
      (subst (λ (n : ℕ). AddsPart bytes next bidders states j n parts new last) en adds))
    where
      same : suc done ≡ done + 1
      same = omega arith

      go : AddsPart bytes next bidders states (suc done) (get_or choice done 0) parts new last → PartsSoFar bytes place bidders states choice
          (done + 1) last new
      go a = record {
        leads = subst (λ (l : List Line). Leads bytes place (parts_plan bidders states 1 (as_numbers choice)) last
            (left_from (done + 1) (drop (done + 1) choice)) l) (sym (ap part_lines a.added ∙ lines_both (map without_value parts) a.part))
            (subst (λ (d : ℕ). Leads bytes place (parts_plan bidders states 1 (as_numbers choice)) last (left_from d (drop (done + 1) choice))
            (part_lines (map without_value parts) ++ part_lines a.part)) same
            (leads_on bytes place (parts_plan bidders states 1 (as_numbers choice)) next
            (unless_zero (pos (get_or choice done 0)) (part_plan bidders states (suc done)) ++ left_from (suc done) (drop (done + 1) choice))
            (part_lines (map without_value parts))
            last (left_from (suc done) (drop (done + 1) choice)) (part_lines a.part) (here done next parts lt h)
            (leads_before bytes next (unless_zero (pos (get_or choice done 0)) (part_plan bidders states (suc done))) last [] (part_lines a.part)
            (left_from (suc done) (drop (done + 1) choice)) a.leads)));
        are = λ rest r. subst (λ (ws : List WithoutValue). AreWithouts bidders states 1 choice ws)
            (sym (ap (λ (ws : List WithoutValue). ws ++ rest) a.added ∙ append_assoc (map without_value parts) a.part rest))
            (h.are (a.part ++ rest) (subst (λ (ns : List ℕ). AreWithouts bidders states (suc done) ns (a.part ++ rest)) (sym (drop_more choice done 0 lt))
            (a.are (drop (done + 1) choice) rest (subst (λ (d : ℕ). AreWithouts bidders states (suc d) (drop (done + 1) choice) rest) (sym same) r))));
        within = within;
      }

  -- halts in the part of the next bidder
  pub parts_halts : (done next : ℕ) (parts : List WithoutPart) (j number : ℕ) (stop : CertStop) → done < length choice
      → PartsSoFar bytes place bidders states choice done next parts → j ≡ done + 1 → number ≡ get_or choice done 0
      → Halts bytes next (unless_zero (pos number) (part_plan bidders states j)) stop → Halts bytes place (parts_plan bidders states 1 (as_numbers choice)) stop
  parts_halts done next parts j number stop lt h ej en halt =
      let ej2 : j ≡ suc done = omega (arith, ej) in
      halts_later bytes place (parts_plan bidders states 1 (as_numbers choice)) next
      (unless_zero (pos (get_or choice done 0)) (part_plan bidders states (suc done)) ++ left_from (suc done) (drop (done + 1) choice))
      (part_lines (map without_value parts)) stop (here done next parts lt h)
      (halts_before bytes next (unless_zero (pos (get_or choice done 0)) (part_plan bidders states (suc done))) stop
      (left_from (suc done) (drop (done + 1) choice))
      (subst (λ (k : ℕ). Halts bytes next (unless_zero (pos (get_or choice done 0)) (part_plan bidders states k)) stop) ej2
      (subst (λ (n : ℕ). Halts bytes next (unless_zero (pos n) (part_plan bidders states j)) stop) en halt)))

  -- after the last bidder all parts of the choice are read
  pub parts_done : (done next : ℕ) (parts : List WithoutPart) → length choice ≤ done → PartsSoFar bytes place bidders states choice done next parts
      → Leads bytes place (parts_plan bidders states 1 (as_numbers choice)) next [] (part_lines (map without_value parts))
      × AreWithouts bidders states 1 choice (map without_value parts)
  parts_done done next parts le h =
      let none : drop done choice ≡ [] = drop_all choice done le in (
        subst (λ (ns : List ℕ). Leads bytes place (parts_plan bidders states 1 (as_numbers choice)) next (left_from done ns)
            (part_lines (map without_value parts))) none h.leads,
        subst (λ (ws : List WithoutValue). AreWithouts bidders states 1 choice ws) (append-nil (map without_value parts))
            (h.are [] (subst (λ (ns : List ℕ). AreWithouts bidders states (suc done) ns []) (sym none) tt)),
      )
    where
      drop_all : (xs : List ℕ) (n : ℕ) → length xs ≤ n → drop n xs ≡ []
      drop_all [] zero le = refl
      drop_all [] (suc n) le = refl
      drop_all (x ∷ xs) zero le = absurd (omega (arith, le))
      drop_all (x ∷ xs) (suc n) le = drop_all xs n (omega (arith, le))
