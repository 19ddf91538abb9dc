-- The rows of a certificate, one by one.
use Rattle.std.proofs.Common.{◌≡◌, ℕ, suc, ◌+◌, ◌-◌, ◌≤◌, ◌<◌, List, [], ◌∷◌, ◌++◌, length, get_or, refl, sym, ap, subst, ◌∙◌, arith, length-append}
use Rattle.std.specs.Prelude.{ℤ, pos, codes, map}
use Rattle.cert_grammar.specs.Certificate.{RowValue}
use Rattle.cert_grammar.specs.Lines.{Line, Kind, kind, members, signed, chosen, rows_plan}
use Rattle.cert_grammar.specs.CertText.{line, choice_line, row_lines, as_numbers, IsRow, AreRows}
use Rattle.cert_text.specs.declared.certificate.CertRow.{CertRow}
use Rattle.cert_text.specs.Parts.{row_value}
use Rattle.cert_text.specs.PartReads.{own_row, row_plan}
use Rattle.cert_text.specs.Readers.{Leads, Halts, LeadsChosen, HaltsChosen}
use Rattle.cert_text.specs.declared.stop.CertStop.{CertStop}
use Rattle.cert_text.proofs.PartSteps.{plain_choice}
use Rattle.cert_text.proofs.PlanSteps.{leads_none, leads_on, leads_before, leads_then, halts_before, halts_later, halts_then}

-- a list of one number is its first
pub one_number : (ns : List ℤ) → length ns ≡ 1 → ns ≡ get_or ns 0 (pos 0) ∷ []
one_number [] e = absurd (omega (arith, e))
one_number (n ∷ []) e = refl
one_number (n ∷ m ∷ ns) e = absurd (omega (arith, e))

-- a list of two numbers is its first and its second
pub two_numbers : (ns : List ℤ) → length ns ≡ 2 → ns ≡ get_or ns 0 (pos 0) ∷ get_or ns 1 (pos 0) ∷ []
two_numbers [] e = absurd (omega (arith, e))
two_numbers (n ∷ []) e = absurd (omega (arith, e))
two_numbers (n ∷ m ∷ []) e = refl
two_numbers (n ∷ m ∷ k ∷ ns) e = absurd (omega (arith, e))

abbrev members_kind : ℕ → Kind
members_kind bidders = kind (codes "row") (members bidders)

abbrev pair_kind : Kind
pair_kind = kind (codes "mult") (signed 2)

abbrev choice_kind : ℕ → Kind
choice_kind bidders = kind (codes "choice") (chosen bidders)

abbrev members_line : List ℕ → Line
members_line ms = line (codes "row") (as_numbers ms)

abbrev pair_line : ℤ → ℤ → Line
pair_line first second = line (codes "mult") (first ∷ second ∷ [])

module _ (bytes : List ℕ) (place bidders : ℕ) where
  -- a line of members, one of two multipliers and a choice are a row
  pub row_done : (ms : List ℕ) (n1 : ℕ) (first second : ℤ) (n2 : ℕ) (choice : List ℕ) (n3 : ℕ) → Leads bytes place (members_kind bidders ∷ []) n1 []
      (members_line ms ∷ []) → Leads bytes n1 (pair_kind ∷ []) n2 [] (pair_line first second ∷ []) → LeadsChosen bytes n2 bidders n3 choice
      → Leads bytes place (row_plan bidders) n3 [] (own_row (record { members = ms; first = first; second = second; choice = choice }))
  row_done ms n1 first second n2 choice n3 a b c =
      leads_then bytes place (members_kind bidders ∷ []) n1 (members_line ms ∷ []) (pair_kind ∷ choice_kind bidders ∷ []) n3
      (pair_line first second ∷ choice_line choice ∷ []) a
      (leads_then bytes n1 (pair_kind ∷ []) n2 (pair_line first second ∷ []) (choice_kind bidders ∷ []) n3 (choice_line choice ∷ []) b
      (c (chosen bidders) (plain_choice bidders)))

  -- halts at the members
  pub row_first : (stop : CertStop) → Halts bytes place (members_kind bidders ∷ []) stop → Halts bytes place (row_plan bidders) stop
  row_first stop h = halts_before bytes place (members_kind bidders ∷ []) stop (pair_kind ∷ choice_kind bidders ∷ []) h

  -- halts at the multipliers, after the members
  pub row_second : (ms : List ℕ) (n1 : ℕ) (stop : CertStop) → Leads bytes place (members_kind bidders ∷ []) n1 [] (members_line ms ∷ [])
      → Halts bytes n1 (pair_kind ∷ []) stop → Halts bytes place (row_plan bidders) stop
  row_second ms n1 stop a h = halts_then bytes place (members_kind bidders ∷ []) n1 (members_line ms ∷ []) (pair_kind ∷ choice_kind bidders ∷ []) stop a
      (halts_before bytes n1 (pair_kind ∷ []) stop (choice_kind bidders ∷ []) h)

  -- halts at the choice, after the multipliers
  pub row_third : (ms : List ℕ) (n1 : ℕ) (first second : ℤ) (n2 : ℕ) (stop : CertStop) → Leads bytes place (members_kind bidders ∷ []) n1 []
      (members_line ms ∷ []) → Leads bytes n1 (pair_kind ∷ []) n2 [] (pair_line first second ∷ []) → HaltsChosen bytes n2 bidders stop
      → Halts bytes place (row_plan bidders) stop
  row_third ms n1 first second n2 stop a b h = halts_then bytes place (members_kind bidders ∷ []) n1 (members_line ms ∷ [])
      (pair_kind ∷ choice_kind bidders ∷ []) stop a
      (halts_then bytes n1 (pair_kind ∷ []) n2 (pair_line first second ∷ []) (choice_kind bidders ∷ []) stop b (h (chosen bidders) (plain_choice bidders)))

-- that many rows are read
pub record RowsSoFar (bytes : List ℕ) (place bidders count done next : ℕ) (rows : List CertRow) : Type 0 where
  pub many : length (map row_value rows) ≡ done
  pub leads : Leads bytes place (rows_plan bidders count) next (rows_plan bidders (count - done)) (row_lines (map row_value rows))
  pub are : AreRows bidders (map row_value rows)
  pub within : next ≤ length bytes

map_more : (rows : List CertRow) (r : CertRow) → map row_value (rows ++ r ∷ []) ≡ map row_value rows ++ row_value r ∷ []
map_more [] r = refl
map_more (o ∷ rows) r = ap (λ (l : List RowValue). row_value o ∷ l) (map_more rows r)

lines_more : (rows : List RowValue) (r : RowValue) → row_lines (rows ++ r ∷ []) ≡ row_lines rows ++ own_row r
lines_more [] r = refl
lines_more (o ∷ rows) r = ap (λ (l : List Line). own_row o ++ l) (lines_more rows r)

are_more : (bidders : ℕ) (rows : List RowValue) (r : RowValue) → AreRows bidders rows → IsRow bidders r → AreRows bidders (rows ++ r ∷ [])
are_more bidders [] r are is = (is, tt)
are_more bidders (o ∷ rows) r are is = (are.0, are_more bidders rows r are.1 is)

module _ (bytes : List ℕ) (place bidders count : ℕ) where
  -- no row is read yet
  pub rows_start : place ≤ length bytes → RowsSoFar bytes place bidders count 0 place []
  rows_start within = record {
    many = refl;
    leads = subst (λ (n : ℕ). Leads bytes place (rows_plan bidders count) place (rows_plan bidders n) []) {x = count} {y = count - 0} (omega arith)
        (leads_none bytes place (rows_plan bidders count));
    are = tt;
    within = within;
  }

  here : (done next : ℕ) (rows : List CertRow) → done < count → RowsSoFar bytes place bidders count done next rows
      → Leads bytes place (rows_plan bidders count) next (row_plan bidders ++ rows_plan bidders (count - (done + 1))) (row_lines (map row_value rows))
  here done next rows lt h = subst (λ (n : ℕ). Leads bytes place (rows_plan bidders count) next (rows_plan bidders n) (row_lines (map row_value rows)))
      {x = count - done} {y = suc (count - (done + 1))} (omega (arith, lt)) h.leads

  -- one row more
  pub rows_more : (done next : ℕ) (rows : List CertRow) (r : CertRow) (last : ℕ) → done < count → RowsSoFar bytes place bidders count done next rows
      → Leads bytes next (row_plan bidders) last [] (own_row (row_value r)) → IsRow bidders (row_value r) → last ≤ length bytes
      → RowsSoFar bytes place bidders count (done + 1) last (rows ++ r ∷ [])
  rows_more done next rows r last lt h read is within = record {
    many = ap (λ (l : List RowValue). length l) (map_more rows r) ∙ length-append (map row_value rows) (row_value r ∷ []) ∙ ap (λ (n : ℕ). n + 1) h.many;
    leads = subst (λ (l : List Line). Leads bytes place (rows_plan bidders count) last (rows_plan bidders (count - (done + 1))) l)
        (sym (ap row_lines (map_more rows r) ∙ lines_more (map row_value rows) (row_value r)))
        (leads_on bytes place (rows_plan bidders count) next (row_plan bidders ++ rows_plan bidders (count - (done + 1)))
        (row_lines (map row_value rows)) last (rows_plan bidders (count - (done + 1))) (own_row (row_value r)) (here done next rows lt h)
        (leads_before bytes next (row_plan bidders) last [] (own_row (row_value r)) (rows_plan bidders (count - (done + 1))) read));
    are = subst (AreRows bidders) (sym (map_more rows r)) (are_more bidders (map row_value rows) (row_value r) h.are is);
    within = within;
  }

  -- halts in the next row
  pub rows_halts : (done next : ℕ) (rows : List CertRow) (stop : CertStop) → done < count → RowsSoFar bytes place bidders count done next rows
      → Halts bytes next (row_plan bidders) stop → Halts bytes place (rows_plan bidders count) stop
  rows_halts done next rows stop lt h halt =
      halts_later bytes place (rows_plan bidders count) next (row_plan bidders ++ rows_plan bidders (count - (done + 1)))
      (row_lines (map row_value rows)) stop (here done next rows lt h)
      (halts_before bytes next (row_plan bidders) stop (rows_plan bidders (count - (done + 1))) halt)

  -- after the last row all are read, and they are as many as were counted
  pub rows_done : (done next : ℕ) (rows : List CertRow) → done ≡ count → RowsSoFar bytes place bidders count done next rows
      → Leads bytes place (rows_plan bidders count) next [] (row_lines (map row_value rows)) × (length (map row_value rows) ≡ count)
  rows_done done next rows e h = (
    subst (λ (n : ℕ). Leads bytes place (rows_plan bidders count) next (rows_plan bidders n) (row_lines (map row_value rows))) {x = count - done} {y = 0}
        (omega (arith, e)) h.leads,
    h.many ∙ e,
  )
