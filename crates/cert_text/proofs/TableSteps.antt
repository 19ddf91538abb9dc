-- A table, line by line.
use Rattle.std.proofs.Common.{◌≡◌, ℕ, suc, ◌+◌, ◌-◌, ◌≤◌, ◌<◌, List, [], ◌∷◌, ◌++◌, length, refl, sym, ap, subst, ◌∙◌, arith, length-append}
use Rattle.std.specs.Prelude.{ℤ, codes, replicate}
use Rattle.choices.specs.Lines.{width_of}
use Rattle.cert_grammar.specs.Lines.{Line, Kind, kind, signed, table_plan}
use Rattle.cert_grammar.specs.CertText.{line, table_lines, AreTableLines, IsTable}
use Rattle.line_format.specs.Range.{AllInRange}
use Rattle.cert_text.specs.Readers.{Leads, Halts}
use Rattle.cert_text.specs.declared.stop.CertStop.{CertStop}
use Rattle.cert_text.proofs.PlanSteps.{leads_none, leads_on, leads_before, halts_before, halts_later}

abbrev pub t_kind : ℕ → Kind
t_kind states = kind (codes "t") (signed states)

-- that many lines of the table are read
pub record TableSoFar (bytes : List ℕ) (place bidders states done next : ℕ) (table : List (List ℤ)) : Type 0 where
  pub count : length table ≡ done
  pub leads : Leads bytes place (table_plan bidders states) next (replicate (suc bidders - done) (t_kind states)) (table_lines table)
  pub lines : AreTableLines states table
  pub within : next ≤ length bytes

replicate_less : (n k : ℕ) (x : Kind) → k < n → replicate (n - k) x ≡ x ∷ replicate (n - (k + 1)) x
replicate_less n k x lt = ap (λ (m : ℕ). replicate m x) more
  where
    more : n - k ≡ suc (n - (k + 1))
    more = omega (arith, lt)

lines_more : (table : List (List ℤ)) (ns : List ℤ) → table_lines (table ++ ns ∷ []) ≡ table_lines table ++ line (codes "t") ns ∷ []
lines_more [] ns = refl
lines_more (t ∷ table) ns = ap (λ (l : List Line). line (codes "t") t ∷ l) (lines_more table ns)

are_more : (states : ℕ) (table : List (List ℤ)) (ns : List ℤ) → AreTableLines states table → length ns ≡ states → AllInRange ns
    → AreTableLines states (table ++ ns ∷ [])
are_more states [] ns are long inside = (long, inside, tt)
are_more states (t ∷ table) ns are long inside = (are.0, are.1, are_more states table ns are.2 long inside)

-- a table with a line is as wide as its lines
pub lines_width : (states : ℕ) (table : List (List ℤ)) → AreTableLines states table → 0 < length table → width_of table ≡ states
lines_width states [] are some = absurd (omega (arith, some))
lines_width states (t ∷ table) are some = are.0

module _ (bytes : List ℕ) (place bidders states : ℕ) where
  -- no line is read yet
  pub table_start : place ≤ length bytes → TableSoFar bytes place bidders states 0 place []
  table_start within = record {
    count = refl;
    leads = subst (λ (n : ℕ). Leads bytes place (table_plan bidders states) place (replicate n (t_kind states)) [])
        {x = suc bidders} {y = suc bidders - 0} (omega arith) (leads_none bytes place (table_plan bidders states));
    lines = tt;
    within = within;
  }

  -- one line more, with a number in range for each state
  pub table_more : (count next : ℕ) (table : List (List ℤ)) (last : ℕ) (ns : List ℤ) → count < bidders + 1
      → TableSoFar bytes place bidders states count next table → Leads bytes next (t_kind states ∷ []) last [] (line (codes "t") ns ∷ []) → length ns ≡ states
      → AllInRange ns → last ≤ length bytes
      → TableSoFar bytes place bidders states (count + 1) last (table ++ ns ∷ [])
  table_more count next table last ns lt h read long inside within = record {
    count = length-append table (ns ∷ []) ∙ ap (λ (n : ℕ). n + 1) h.count;
    leads =
        let rest : List Kind = replicate (suc bidders - (count + 1)) (t_kind states) in
        let here = subst (λ (ks : List Kind). Leads bytes place (table_plan bidders states) next ks (table_lines table))
        (replicate_less (suc bidders) count (t_kind states) (omega (arith, lt))) h.leads in
        subst (λ (l : List Line). Leads bytes place (table_plan bidders states) last rest l) (sym (lines_more table ns))
        (leads_on bytes place (table_plan bidders states) next (t_kind states ∷ rest) (table_lines table) last rest (line (codes "t") ns ∷ []) here
        (leads_before bytes next (t_kind states ∷ []) last [] (line (codes "t") ns ∷ []) rest read));
    lines = are_more states table ns h.lines long inside;
    within = within;
  }

  -- halts at the next line
  pub table_halts : (count next : ℕ) (table : List (List ℤ)) (stop : CertStop) → count < bidders + 1 → TableSoFar bytes place bidders states count next table
      → Halts bytes next (t_kind states ∷ []) stop → Halts bytes place (table_plan bidders states) stop
  table_halts count next table stop lt h halt =
      let rest : List Kind = replicate (suc bidders - (count + 1)) (t_kind states) in
      let here = subst (λ (ks : List Kind). Leads bytes place (table_plan bidders states) next ks (table_lines table))
      (replicate_less (suc bidders) count (t_kind states) (omega (arith, lt))) h.leads in
      halts_later bytes place (table_plan bidders states) next (t_kind states ∷ rest) (table_lines table) stop here
      (halts_before bytes next (t_kind states ∷ []) stop rest halt)

  -- with a line for each bidder and one more, the table is read
  pub table_done : (count next : ℕ) (table : List (List ℤ)) → count ≡ bidders + 1 → TableSoFar bytes place bidders states count next table
      → Leads bytes place (table_plan bidders states) next [] (table_lines table) × IsTable bidders states table
  table_done count next table e h = (
    subst (λ (n : ℕ). Leads bytes place (table_plan bidders states) next (replicate n (t_kind states)) (table_lines table)) {x = suc bidders - count} {y = 0}
        (omega (arith, e)) h.leads,
    (h.count ∙ omega (arith, e), h.lines),
  )
