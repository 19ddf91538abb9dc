-- The rows of a placement certificate, one by one.
use Rattle.std.proofs.Common.{◌≡◌, ℕ, suc, ◌+◌, ◌-◌, ◌≤◌, ◌<◌, List, [], ◌∷◌, ◌++◌, length, refl, sym, ap, subst, ◌∙◌, arith, length-append}
use Rattle.cert_grammar.specs.Lines.{Kind, Line, ordered_rows_plan}
use Rattle.cert_grammar.specs.CertText.{IsChoice, IsRow}
use Rattle.cert_text.specs.Readers.{Leads, Halts}
use Rattle.cert_text.specs.declared.stop.CertStop.{CertStop}
use Rattle.cert_text.proofs.PlanSteps.{leads_none, leads_on, leads_before, halts_before, halts_later}
use Rattle.placement_cert.specs.Parts.{row_value, row_order, AreRows}
use Rattle.placement_cert.specs.PlaceReads.{own_row, row_lines, row_plan}
use Rattle.placement_cert.specs.declared.certificate.PlaceRow.{PlaceRow}

-- that many rows are read
pub record RowsSoFar (bytes : List ℕ) (place bidders count done next : ℕ) (rows : List PlaceRow) : Type 0 where
  pub many : length rows ≡ done
  pub leads : Leads bytes place (ordered_rows_plan bidders count) next (ordered_rows_plan bidders (count - done)) (row_lines rows)
  pub are : AreRows bidders rows
  pub within : next ≤ length bytes

-- the lines of one row more
lines_more : (rows : List PlaceRow) (r : PlaceRow) → row_lines (rows ++ r ∷ []) ≡ row_lines rows ++ own_row r
lines_more [] r = refl
lines_more (o ∷ rows) r = ap (λ (l : List Line). own_row o ++ l) (lines_more rows r)

-- one row more
are_more : (bidders : ℕ) (rows : List PlaceRow) (r : PlaceRow) → AreRows bidders rows → IsRow bidders (row_value r) → IsChoice bidders (row_order r)
    → AreRows bidders (rows ++ r ∷ [])
are_more bidders [] r are is order = (is, order, tt)
are_more bidders (o ∷ rows) r are is order = (are.0, are.1, are_more bidders rows r are.2 is order)

module _ (bytes : List ℕ) (place bidders count : ℕ) where
  abbrev whole : List Kind
  whole = ordered_rows_plan bidders count

  -- no row is read yet
  pub rows_start : place ≤ length bytes → RowsSoFar bytes place bidders count 0 place []
  rows_start within = record {
    many = refl;
    leads = subst (λ (n : ℕ). Leads bytes place whole place (ordered_rows_plan bidders n) []) {x = count} {y = count - 0} (omega arith)
        (leads_none bytes place whole);
    are = tt;
    within = within;
  }

  abbrev left_behind : ℕ → List Kind
  left_behind done = ordered_rows_plan bidders (count - (done + 1))

  here : (done next : ℕ) (rows : List PlaceRow) → done < count → RowsSoFar bytes place bidders count done next rows
      → Leads bytes place whole next (row_plan bidders ++ left_behind done) (row_lines rows)
  here done next rows lt h = subst (λ (n : ℕ). Leads bytes place whole next (ordered_rows_plan bidders n) (row_lines rows)) {x = count - done}
      {y = suc (count - (done + 1))} (omega (arith, lt)) h.leads

  -- one row more is read
  pub rows_more : (done next : ℕ) (rows : List PlaceRow) (r : PlaceRow) (last : ℕ) → done < count → RowsSoFar bytes place bidders count done next rows
      → Leads bytes next (row_plan bidders) last [] (own_row r) → IsRow bidders (row_value r) → IsChoice bidders (row_order r)
      → last ≤ length bytes → RowsSoFar bytes place bidders count (done + 1) last (rows ++ r ∷ [])
  rows_more done next rows r last lt h read is order within = record {
    many = length-append rows (r ∷ []) ∙ ap (λ (n : ℕ). n + 1) h.many;
    leads = subst (λ (l : List Line). Leads bytes place whole last (left_behind done) l) (sym (lines_more rows r))
        (leads_on bytes place whole next (row_plan bidders ++ left_behind done) (row_lines rows) last (left_behind done) (own_row r) (here done next rows lt h)
        (leads_before bytes next (row_plan bidders) last [] (own_row r) (left_behind done) read));
    are = are_more bidders rows r h.are is order;
    within = within;
  }

  -- the next row isn't there
  pub rows_halts : (done next : ℕ) (rows : List PlaceRow) (stop : CertStop) → done < count → RowsSoFar bytes place bidders count done next rows
      → Halts bytes next (row_plan bidders) stop → Halts bytes place whole stop
  rows_halts done next rows stop lt h halt =
      halts_later bytes place whole next (row_plan bidders ++ left_behind done) (row_lines rows) stop (here done next rows lt h)
      (halts_before bytes next (row_plan bidders) stop (left_behind done) halt)

  -- all rows are read
  pub rows_done : (done next : ℕ) (rows : List PlaceRow) → done ≡ count → RowsSoFar bytes place bidders count done next rows
      → Leads bytes place whole next [] (row_lines rows) × (length rows ≡ count)
  rows_done done next rows e h = (
    subst (λ (n : ℕ). Leads bytes place whole next (ordered_rows_plan bidders n) (row_lines rows)) {x = count - done} {y = 0} (omega (arith, e)) h.leads,
    h.many ∙ e,
  )
