-- The stages of a certificate's text, from what is read of each.
use Rattle.std.proofs.Common.{◌≡◌, ℕ, false, map, List, [], ◌∷◌, ◌++◌, length, sym, subst}
use Rattle.std.specs.Prelude.{ℤ, pos, codes}
use Rattle.limits.specs.declared.TheConstants.{MOST_BIDDERS, MOST_STATES}
use Rattle.cert_grammar.specs.Certificate.{WithoutValue, RowValue}
use Rattle.cert_grammar.specs.Lines.{Line, Kind, kind, just_line, version_of, these, signed, headed, counted, table_plan, parts_plan, rows_plan}
use Rattle.cert_grammar.specs.CertText.{line, choice_line, as_numbers, table_lines, part_lines, row_lines}
use Rattle.cert_text.specs.StagePlans.{opening_plan, opening_lines, winning_kind, winning_lines, payment_plan, payment_lines, closing_plan, closing_lines}
use Rattle.cert_text.specs.Readers.{AreChosen, Leads, Halts, LeadsChosen, HaltsChosen}
use Rattle.cert_text.specs.declared.stop.CertStop.{CertStop}
use Rattle.cert_text.proofs.PlanSteps.{leads_on, leads_then, halts_before, halts_later, halts_then}

abbrev second_kind : Kind
second_kind = kind (codes "cert") (these (pos 2 ∷ []))

abbrev second_line : Line
second_line = line (codes "cert") (pos 2 ∷ [])

abbrev limits_kind : Kind
limits_kind = kind (codes "limits") (these (pos MOST_BIDDERS ∷ pos MOST_STATES ∷ []))

abbrev limits_line : Line
limits_line = line (codes "limits") (pos MOST_BIDDERS ∷ pos MOST_STATES ∷ [])

module _ (bytes : List ℕ) where
  -- halts at the first line of the second version
  pub second_first : (stop : CertStop) → Halts bytes 0 (second_kind ∷ []) stop → Halts bytes 0 (map just_line (version_of false)) stop
  second_first stop h = halts_before bytes 0 (second_kind ∷ []) stop (limits_kind ∷ []) h

  module _ (n1 : ℕ) (a : Leads bytes 0 (second_kind ∷ []) n1 [] (second_line ∷ [])) where
    -- halts at the limits, after the first line
    pub second_second : (stop : CertStop) → Halts bytes n1 (limits_kind ∷ []) stop → Halts bytes 0 (map just_line (version_of false)) stop
    second_second stop h = halts_then bytes 0 (second_kind ∷ []) n1 (second_line ∷ []) (limits_kind ∷ []) stop a h

    -- the first line and the limits are the lines of the second version
    pub second_done : (n2 : ℕ) → Leads bytes n1 (limits_kind ∷ []) n2 [] (limits_line ∷ []) → Leads bytes 0 (map just_line (version_of false)) n2 []
        (version_of false)
    second_done n2 b = leads_then bytes 0 (second_kind ∷ []) n1 (second_line ∷ []) (limits_kind ∷ []) n2 (limits_line ∷ []) a b

abbrev den_kind : Kind
den_kind = kind (codes "den") (signed 1)

abbrev value_kind : Kind
value_kind = kind (codes "value") (signed 1)

abbrev den_line : ℤ → Line
den_line den = line (codes "den") (den ∷ [])

abbrev value_line : ℤ → Line
value_line value = line (codes "value") (value ∷ [])

module _ (bytes : List ℕ) (place : ℕ) where
  -- halts at the denominator
  pub opening_first : (stop : CertStop) → Halts bytes place (den_kind ∷ []) stop → Halts bytes place opening_plan stop
  opening_first stop h = halts_before bytes place (den_kind ∷ []) stop (value_kind ∷ []) h

  module _ (den : ℤ) (n1 : ℕ) (a : Leads bytes place (den_kind ∷ []) n1 [] (den_line den ∷ [])) where
    -- halts at the value, after the denominator
    pub opening_second : (stop : CertStop) → Halts bytes n1 (value_kind ∷ []) stop → Halts bytes place opening_plan stop
    opening_second stop h = halts_then bytes place (den_kind ∷ []) n1 (den_line den ∷ []) (value_kind ∷ []) stop a h

    -- the denominator and the value are the opening
    pub opening_done : (value : ℤ) (n2 : ℕ) → Leads bytes n1 (value_kind ∷ []) n2 [] (value_line value ∷ [])
        → Leads bytes place opening_plan n2 [] (opening_lines den value)
    opening_done value n2 b = leads_then bytes place (den_kind ∷ []) n1 (den_line den ∷ []) (value_kind ∷ []) n2 (value_line value ∷ []) a b

abbrev named_plan : List ℕ → ℕ → ℕ → List Kind
named_plan word bidders states = kind word (these []) ∷ table_plan bidders states

abbrev named_lines : List ℕ → List (List ℤ) → List Line
named_lines word table = line word [] ∷ table_lines table

-- the numbers of the head's choice are those of a choice
pub head_choice : (bidders states : ℕ) → AreChosen bidders (headed bidders states)
head_choice bidders states = record { to = λ ns f. f; from = λ ns f. f }

module _ (bytes : List ℕ) (place bidders states : ℕ) where
  -- halts at the winning choice
  pub winning_first : (stop : CertStop) → HaltsChosen bytes place bidders stop → Halts bytes place (winning_kind bidders states ∷ []) stop
  winning_first stop h = h (headed bidders states) (head_choice bidders states)

  module _ (choice : List ℕ) (n1 : ℕ) (a : LeadsChosen bytes place bidders n1 choice) where
    abbrev left : List Kind
    left = named_plan (codes "table") bidders states ++ parts_plan bidders states 1 (as_numbers choice)

    head : Leads bytes place (winning_kind bidders states ∷ []) n1 left (choice_line choice ∷ [])
    head = a (headed bidders states) (head_choice bidders states)

    -- halts in the table, after the choice
    pub winning_second : (stop : CertStop) → Halts bytes n1 (named_plan (codes "table") bidders states) stop
        → Halts bytes place (winning_kind bidders states ∷ []) stop
    winning_second stop h = halts_later bytes place (winning_kind bidders states ∷ []) n1 left (choice_line choice ∷ []) stop head
        (halts_before bytes n1 (named_plan (codes "table") bidders states) stop (parts_plan bidders states 1 (as_numbers choice)) h)

    module _ (table : List (List ℤ)) (n2 : ℕ) (b : Leads bytes n1 (named_plan (codes "table") bidders states) n2 [] (named_lines (codes "table") table)) where
      -- halts in the parts, after the table
      pub winning_third : (stop : CertStop) → Halts bytes n2 (parts_plan bidders states 1 (as_numbers choice)) stop
          → Halts bytes place (winning_kind bidders states ∷ []) stop
      winning_third stop h = halts_later bytes place (winning_kind bidders states ∷ []) n1 left (choice_line choice ∷ []) stop head
          (halts_then bytes n1 (named_plan (codes "table") bidders states) n2 (named_lines (codes "table") table)
          (parts_plan bidders states 1 (as_numbers choice)) stop b h)

      -- the choice, its table and the parts are read
      pub winning_done : (withouts : List WithoutValue) (n3 : ℕ) → Leads bytes n2 (parts_plan bidders states 1 (as_numbers choice)) n3 []
          (part_lines withouts) → Leads bytes place (winning_kind bidders states ∷ []) n3 [] (winning_lines choice table withouts)
      winning_done withouts n3 c = leads_on bytes place (winning_kind bidders states ∷ []) n1 left (choice_line choice ∷ []) n3 []
          (named_lines (codes "table") table ++ part_lines withouts) head
          (leads_then bytes n1 (named_plan (codes "table") bidders states) n2 (named_lines (codes "table") table)
          (parts_plan bidders states 1 (as_numbers choice)) n3 (part_lines withouts) b c)

  abbrev pay_kind : Kind
  pay_kind = kind (codes "pay") (signed bidders)

  abbrev count_kind : Kind
  count_kind = kind (codes "rows") (counted bidders)

  abbrev count_line : ℕ → Line
  count_line count = line (codes "rows") (pos count ∷ [])

  -- halts at the payments
  pub payment_first : (stop : CertStop) → Halts bytes place (pay_kind ∷ []) stop → Halts bytes place (payment_plan bidders) stop
  payment_first stop h = halts_before bytes place (pay_kind ∷ []) stop (count_kind ∷ []) h

  module _ (pay : List ℤ) (n1 : ℕ) (a : Leads bytes place (pay_kind ∷ []) n1 [] (line (codes "pay") pay ∷ [])) where
    -- halts at the count of rows, after the payments
    pub payment_second : (stop : CertStop) → Halts bytes n1 (count_kind ∷ []) stop → Halts bytes place (payment_plan bidders) stop
    payment_second stop h = halts_then bytes place (pay_kind ∷ []) n1 (line (codes "pay") pay ∷ []) (count_kind ∷ []) stop a h

    module _ (count n2 : ℕ) (b : Leads bytes n1 (count_kind ∷ []) n2 (rows_plan bidders count) (count_line count ∷ [])) where
      -- halts in the rows, after their count
      pub payment_third : (stop : CertStop) → Halts bytes n2 (rows_plan bidders count) stop → Halts bytes place (payment_plan bidders) stop
      payment_third stop h = payment_second stop (halts_later bytes n1 (count_kind ∷ []) n2 (rows_plan bidders count) (count_line count ∷ []) stop b h)

      -- the payments and as many rows as were counted are read
      pub payment_done : (rows : List RowValue) (n3 : ℕ) → length rows ≡ count → Leads bytes n2 (rows_plan bidders count) n3 [] (row_lines rows)
          → Leads bytes place (payment_plan bidders) n3 [] (payment_lines pay rows)
      payment_done rows n3 many c = subst (λ (n : ℕ). Leads bytes place (payment_plan bidders) n3 [] (line (codes "pay") pay ∷ count_line n ∷ row_lines rows))
          (sym many)
          (leads_then bytes place (pay_kind ∷ []) n1 (line (codes "pay") pay ∷ []) (count_kind ∷ []) n3 (count_line count ∷ row_lines rows) a
          (leads_on bytes n1 (count_kind ∷ []) n2 (rows_plan bidders count) (count_line count ∷ []) n3 [] (row_lines rows) b c))

  abbrev end_kind : Kind
  end_kind = kind (codes "end") (these [])

  -- halts in the lowered table
  pub closing_first : (stop : CertStop) → Halts bytes place (named_plan (codes "lowered") bidders states) stop
      → Halts bytes place (closing_plan bidders states) stop
  closing_first stop h = halts_before bytes place (named_plan (codes "lowered") bidders states) stop (end_kind ∷ []) h

  module _ (table : List (List ℤ)) (n1 : ℕ) (a : Leads bytes place (named_plan (codes "lowered") bidders states) n1 [] (named_lines (codes "lowered") table))
    where
      -- halts at the last line, after the lowered table
      pub closing_second : (stop : CertStop) → Halts bytes n1 (end_kind ∷ []) stop → Halts bytes place (closing_plan bidders states) stop
      closing_second stop h = halts_then bytes place (named_plan (codes "lowered") bidders states) n1 (named_lines (codes "lowered") table)
          (end_kind ∷ []) stop a h

      -- the lowered table and the last line are the closing
      pub closing_done : (n2 : ℕ) → Leads bytes n1 (end_kind ∷ []) n2 [] (line (codes "end") [] ∷ []) → Leads bytes place (closing_plan bidders states) n2 []
          (closing_lines table)
      closing_done n2 b = leads_then bytes place (named_plan (codes "lowered") bidders states) n1 (named_lines (codes "lowered") table) (end_kind ∷ []) n2
          (line (codes "end") [] ∷ []) a b
