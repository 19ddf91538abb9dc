-- An order and a choice, and what comes after a choice of the head.
use Rattle.std.specs.Prelude.{◌≡◌, ℕ, List, [], ◌∷◌, ◌++◌, codes, length, pos, ℤ}
use Rattle.std.proofs.Common.{sym, subst}
use Rattle.cert_grammar.specs.Lines.{Kind, Line, after_numbers, chosen, counted, kind, ordered_count, ordered_head, ordered_parts_plan}
use Rattle.cert_grammar.specs.Lines.{ordered_rows_plan, set_table_plan, signed, these}
use Rattle.cert_grammar.specs.CertText.{as_numbers, choice_line, line, table_lines}
use Rattle.cert_text.specs.Readers.{AreChosen, AreLike, Leads, Halts, LeadsChosen, HaltsChosen, LeadsCounted, HaltsCounted, LeadsLike, HaltsLike}
use Rattle.cert_text.specs.declared.stop.CertStop.{CertStop}
use Rattle.cert_text.proofs.PlanSteps.{leads_on, leads_before, leads_then, halts_before, halts_later, halts_then, same_kind}
use Rattle.placement_cert.specs.PlaceText.{order_line}
use Rattle.placement_cert.specs.PlaceReads.{HaltsOrdered, LeadsOrdered, ordered_kinds, ordered_lines, part_lines, payment_lines, payment_plan}
use Rattle.placement_cert.specs.PlaceReads.{placing_lines, placing_plan, row_lines}
use Rattle.placement_cert.specs.declared.certificate.PlaceRow.{PlaceRow}
use Rattle.placement_cert.specs.declared.certificate.PlaceWithout.{PlaceWithout}

-- the choice of a head is one of numbers as each other
placed_choice : (bidders : ℕ) → AreChosen bidders (ordered_head bidders)
placed_choice bidders = record { to = λ ns f. f; from = λ ns f. f }

-- a count of rows with an order is one as each other
placed_count : (bidders : ℕ) → AreLike (counted bidders) (ordered_count bidders)
placed_count bidders = record { to = λ ns f. f; from = λ ns f. f }

abbrev order_kind : ℕ → Kind
order_kind bidders = kind (codes "order") (chosen bidders)

abbrev table_plan : ℕ → List Kind
table_plan bidders = kind (codes "table") (these []) ∷ set_table_plan bidders

abbrev named_lines : List (List ℤ) → List Line
named_lines table = line (codes "table") [] ∷ table_lines table

module _ (bytes : List ℕ) (place bidders : ℕ) where
  abbrev OrderLeads : ℕ → List ℕ → Type 0
  OrderLeads next order = LeadsLike bytes place (codes "order") (chosen bidders) next (as_numbers order)

  -- a stop at the order is the stop at an order with a choice
  pub ordered_first : (stop : CertStop) → HaltsLike bytes place (codes "order") (chosen bidders) stop → HaltsOrdered bytes place bidders stop
  ordered_first stop h = λ n like. halts_before bytes place (order_kind bidders ∷ []) stop (kind (codes "choice") n ∷ [])
      (h (chosen bidders) (same_kind (chosen bidders)))

  module _ (n1 : ℕ) (order : List ℕ) (a : OrderLeads n1 order) where
    -- after the order, a stop at the choice is the stop at both
    pub ordered_second : (stop : CertStop) → HaltsChosen bytes n1 bidders stop → HaltsOrdered bytes place bidders stop
    ordered_second stop h = λ n like. halts_then bytes place (order_kind bidders ∷ []) n1 (order_line order ∷ []) (kind (codes "choice") n ∷ []) stop
        (a (chosen bidders) (same_kind (chosen bidders))) (h n like)

    -- an order and the choice after it are read as both
    pub ordered_done : (choice : List ℕ) (n2 : ℕ) → LeadsChosen bytes n1 bidders n2 choice → LeadsOrdered bytes place bidders n2 order choice
    ordered_done choice n2 b = λ n like.
        leads_on bytes place (ordered_kinds bidders n) n1 (kind (codes "choice") n ∷ []) (order_line order ∷ []) n2 (after_numbers n (as_numbers choice))
        (choice_line choice ∷ [])
        (leads_before bytes place (order_kind bidders ∷ []) n1 [] (order_line order ∷ []) (kind (codes "choice") n ∷ [])
        (a (chosen bidders) (same_kind (chosen bidders))))
        (b n like)

  -- the head's order and choice, its table, and the parts
  pub placing_first : (stop : CertStop) → HaltsOrdered bytes place bidders stop → Halts bytes place (placing_plan bidders) stop
  placing_first stop h = h (ordered_head bidders) (placed_choice bidders)

  module _ (order choice : List ℕ) (n1 : ℕ) (a : LeadsOrdered bytes place bidders n1 order choice) where
    abbrev parts_plan : List Kind
    parts_plan = ordered_parts_plan bidders 1 (as_numbers choice)

    abbrev left : List Kind
    left = table_plan bidders ++ parts_plan

    head : Leads bytes place (placing_plan bidders) n1 left (ordered_lines order choice)
    head = a (ordered_head bidders) (placed_choice bidders)

    -- after the choice, a stop at the table is the stop at the whole head
    pub placing_second : (stop : CertStop) → Halts bytes n1 (table_plan bidders) stop → Halts bytes place (placing_plan bidders) stop
    placing_second stop h = halts_later bytes place (placing_plan bidders) n1 left (ordered_lines order choice) stop head
        (halts_before bytes n1 (table_plan bidders) stop parts_plan h)

    module _ (table : List (List ℤ)) (n2 : ℕ) (b : Leads bytes n1 (table_plan bidders) n2 [] (named_lines table)) where
      -- after the table, a stop at the parts is the stop at the whole head
      pub placing_third : (stop : CertStop) → Halts bytes n2 parts_plan stop → Halts bytes place (placing_plan bidders) stop
      placing_third stop h = halts_later bytes place (placing_plan bidders) n1 left (ordered_lines order choice) stop head
          (halts_then bytes n1 (table_plan bidders) n2 (named_lines table) parts_plan stop b h)

      -- with the parts after its table the whole head is read
      pub placing_done : (parts : List PlaceWithout) (n3 : ℕ) → Leads bytes n2 parts_plan n3 [] (part_lines parts)
          → Leads bytes place (placing_plan bidders) n3 [] (placing_lines order choice table parts)
      placing_done parts n3 c = leads_on bytes place (placing_plan bidders) n1 left (ordered_lines order choice) n3 []
          (named_lines table ++ part_lines parts) head
          (leads_then bytes n1 (table_plan bidders) n2 (named_lines table) parts_plan n3 (part_lines parts) b c)

  abbrev pay_kind : Kind
  pay_kind = kind (codes "pay") (signed bidders)

  abbrev count_kind : Kind
  count_kind = kind (codes "rows") (ordered_count bidders)

  abbrev count_line : ℕ → Line
  count_line count = line (codes "rows") (pos count ∷ [])

  -- the payments, the count of rows, and the rows
  pub payment_first : (stop : CertStop) → Halts bytes place (pay_kind ∷ []) stop → Halts bytes place (payment_plan bidders) stop
  payment_first stop h = halts_before bytes place (pay_kind ∷ []) stop (count_kind ∷ []) h

  module _ (pay : List ℤ) (n1 : ℕ) (a : Leads bytes place (pay_kind ∷ []) n1 [] (line (codes "pay") pay ∷ [])) where
    from_count : (stop : CertStop) → Halts bytes n1 (count_kind ∷ []) stop → Halts bytes place (payment_plan bidders) stop
    from_count stop h = halts_then bytes place (pay_kind ∷ []) n1 (line (codes "pay") pay ∷ []) (count_kind ∷ []) stop a h

    -- after the payments, a stop at the count of rows is the stop at all these lines
    pub payment_second : (stop : CertStop) → HaltsCounted bytes n1 bidders stop → Halts bytes place (payment_plan bidders) stop
    payment_second stop h = from_count stop (h (ordered_count bidders) (placed_count bidders))

    module _ (count n2 : ℕ) (b : LeadsCounted bytes n1 bidders n2 count) where
      counts : Leads bytes n1 (count_kind ∷ []) n2 (ordered_rows_plan bidders count) (count_line count ∷ [])
      counts = b (ordered_count bidders) (placed_count bidders)

      -- after the count, a stop at the rows is the stop at all these lines
      pub payment_third : (stop : CertStop) → Halts bytes n2 (ordered_rows_plan bidders count) stop → Halts bytes place (payment_plan bidders) stop
      payment_third stop h = from_count stop (halts_later bytes n1 (count_kind ∷ []) n2 (ordered_rows_plan bidders count) (count_line count ∷ []) stop counts h)

      -- with as many rows as the count says all these lines are read
      pub payment_done : (rows : List PlaceRow) (n3 : ℕ) → length rows ≡ count → Leads bytes n2 (ordered_rows_plan bidders count) n3 [] (row_lines rows)
          → Leads bytes place (payment_plan bidders) n3 [] (payment_lines pay rows)
      payment_done rows n3 many c = subst (λ (n : ℕ). Leads bytes place (payment_plan bidders) n3 [] (line (codes "pay") pay ∷ count_line n ∷ row_lines rows))
          (sym many)
          (leads_then bytes place (pay_kind ∷ []) n1 (line (codes "pay") pay ∷ []) (count_kind ∷ []) n3 (count_line count ∷ row_lines rows) a
          (leads_on bytes n1 (count_kind ∷ []) n2 (ordered_rows_plan bidders count) (count_line count ∷ []) n3 [] (row_lines rows) counts c))
