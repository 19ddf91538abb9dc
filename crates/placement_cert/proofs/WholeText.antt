-- A placement certificate, from the stages of its text.
use Rattle.std.proofs.Common.{◌≡◌, ℕ, ◌^◌, ◌≤◌, List, [], ◌∷◌, ◌++◌, length, drop, sym, ap, subst, map}
use Rattle.std.specs.Prelude.{ℤ, pos, codes}
use Rattle.std.proofs.lemmas.List.{append-nil, length-map}
use Rattle.line_format.specs.LineText.{IsTextOf}
use Rattle.cert_grammar.specs.Lines.{IsPlacesText, Kind, Line, kind, lines, places_plan, these}
use Rattle.cert_grammar.specs.CertText.{IsChoice, line}
use Rattle.cert_grammar.specs.Reading.{ReachedBy}
use Rattle.cert_grammar.proofs.CertReads.{fine_places}
use Rattle.cert_grammar.proofs.Reading.{reached-end, reached-first}
use Rattle.line_format.specs.Range.{AllInRange}
use Rattle.wide_num.specs.Range.{InRange}
use Rattle.cert_text.specs.declared.stop.CertStop.{CertStop}
use Rattle.cert_text.specs.declared.stop.CertStop.TheVariants.{Form, Range, Memory}
use Rattle.cert_text.specs.StagePlans.{opening_plan, opening_lines, closing_plan, closing_lines}
use Rattle.cert_text.specs.Stops.{StopsBy}
use Rattle.cert_text.specs.Readers.{Leads, Halts, HaltsAtEnd}
use Rattle.cert_text.proofs.PlanSteps.{leads_then, halts_before, halts_then}
use Rattle.cert_grammar.specs.PlaceCert.{PlaceCertValue}
use Rattle.placement_cert.specs.PlaceText.{HasSets, IsPlaceCertificate, place_lines, ordered_row_lines}
use Rattle.placement_cert.specs.Parts.{row_value, row_order, place_cert_from, AreParts, AreRows}
use Rattle.placement_cert.specs.CertValues.{PlaceStopsAt}
use Rattle.placement_cert.specs.PlaceReads.{payment_lines, payment_plan, placing_lines, placing_plan}
use Rattle.placement_cert.specs.declared.certificate.PlaceRow.{PlaceRow}
use Rattle.placement_cert.specs.declared.certificate.PlaceWithout.{PlaceWithout}

-- what the bytes say as a text by the plan, they say of a placement certificate
place_stops : (b : ℕ) (bytes : List ℕ) (stop : CertStop) → StopsBy (places_plan b) bytes stop → PlaceStopsAt b bytes stop
place_stops b bytes (Form place) h = h
place_stops b bytes (Range place) h = h
place_stops b bytes Memory h = tt

abbrev version_plan : List Kind
version_plan = kind (codes "pcert") (these (pos 1 ∷ [])) ∷ []

abbrev version_line : List Line
version_line = line (codes "pcert") (pos 1 ∷ []) ∷ []

module _ (b : ℕ) (bytes : List ℕ) where
  abbrev last_plan : List Kind
  last_plan = closing_plan 0 (2 ^ b)

  abbrev from_placing : List Kind
  from_placing = placing_plan b ++ (payment_plan b ++ last_plan)

  abbrev body_plan : List Kind
  body_plan = opening_plan ++ from_placing

  start : ReachedBy (places_plan b) bytes 0 (places_plan b ++ []) []
  start = subst (λ (p : List Kind). ReachedBy (places_plan b) bytes 0 p []) (sym (append-nil (places_plan b))) (reached-first bytes (fine_places b))

  stops : (stop : CertStop) → Halts bytes 0 (places_plan b) stop → PlaceStopsAt b bytes stop
  stops stop h = place_stops b bytes stop (h.halts (places_plan b) [] [] start)

  -- a stop at the first line is the stop at the whole text
  pub version_stops : (stop : CertStop) → Halts bytes 0 version_plan stop → PlaceStopsAt b bytes stop
  version_stops stop h = stops stop (halts_before bytes 0 version_plan stop body_plan h)

  module _ (n0 : ℕ) (zeroth : Leads bytes 0 version_plan n0 [] version_line) where
    stops_behind : (stop : CertStop) → Halts bytes n0 body_plan stop → PlaceStopsAt b bytes stop
    stops_behind stop h = stops stop (halts_then bytes 0 version_plan n0 version_line body_plan stop zeroth h)

    -- a stop at the denominator or the value is the stop at the whole text
    pub opening_stops : (stop : CertStop) → Halts bytes n0 opening_plan stop → PlaceStopsAt b bytes stop
    opening_stops stop h = stops_behind stop (halts_before bytes n0 opening_plan stop from_placing h)

    module _ (den value : ℤ) (n1 : ℕ) (one : Leads bytes n0 opening_plan n1 [] (opening_lines den value)) where
      stops_opened : (stop : CertStop) → Halts bytes n1 from_placing stop → PlaceStopsAt b bytes stop
      stops_opened stop h = stops_behind stop (halts_then bytes n0 opening_plan n1 (opening_lines den value) from_placing stop one h)

      -- a stop at the head's order, choice, table or parts is the stop at the whole text
      pub placing_stops : (stop : CertStop) → Halts bytes n1 (placing_plan b) stop → PlaceStopsAt b bytes stop
      placing_stops stop h = stops_opened stop (halts_before bytes n1 (placing_plan b) stop (payment_plan b ++ last_plan) h)

      module _ (order choice : List ℕ) (table : List (List ℤ)) (withouts : List PlaceWithout) (n2 : ℕ)
          (two : Leads bytes n1 (placing_plan b) n2 [] (placing_lines order choice table withouts)) where
        stops_placed : (stop : CertStop) → Halts bytes n2 (payment_plan b ++ last_plan) stop → PlaceStopsAt b bytes stop
        stops_placed stop h = stops_opened stop (halts_then bytes n1 (placing_plan b) n2 (placing_lines order choice table withouts)
            (payment_plan b ++ last_plan) stop two h)

        -- a stop at the payments or the rows is the stop at the whole text
        pub payment_stops : (stop : CertStop) → Halts bytes n2 (payment_plan b) stop → PlaceStopsAt b bytes stop
        payment_stops stop h = stops_placed stop (halts_before bytes n2 (payment_plan b) stop last_plan h)

        module _ (pay : List ℤ) (rows : List PlaceRow) (n3 : ℕ) (three : Leads bytes n2 (payment_plan b) n3 [] (payment_lines pay rows)) where
          -- a stop at the lowered table or the last line is the stop at the whole text
          pub closing_stops : (stop : CertStop) → Halts bytes n3 last_plan stop → PlaceStopsAt b bytes stop
          closing_stops stop h = stops_placed stop (halts_then bytes n2 (payment_plan b) n3 (payment_lines pay rows) last_plan stop three h)

          module _ (lowered : List (List ℤ)) (n4 : ℕ) (four : Leads bytes n3 last_plan n4 [] (closing_lines lowered)) where
            abbrev value_read : PlaceCertValue
            value_read = place_cert_from den value choice order table withouts pay rows lowered

            -- the lines that were read, up to the count of rows as the list of the program has it
            abbrev lines_read : List Line
            lines_read = version_line ++ (opening_lines den value ++ (placing_lines order choice table withouts
                ++ (payment_lines pay rows ++ closing_lines lowered)))

            same_lines : lines_read ≡ place_lines value_read
            same_lines = ap (λ (n : ℕ). version_line ++ (opening_lines den value
                ++ (placing_lines order choice table withouts ++ ((line (codes "pay") pay ∷ line (codes "rows") (pos n ∷ []) ∷ ordered_row_lines
                (map row_value rows) (map row_order rows)) ++ closing_lines lowered)))) (sym (length-map rows row_value))

            body : Leads bytes n0 body_plan n4 [] (opening_lines den value ++ (placing_lines order choice table withouts
                ++ (payment_lines pay rows ++ closing_lines lowered)))
            body = leads_then bytes n0 opening_plan n1 (opening_lines den value) from_placing n4
                (placing_lines order choice table withouts ++ (payment_lines pay rows ++ closing_lines lowered)) one
                (leads_then bytes n1 (placing_plan b) n2 (placing_lines order choice table withouts) (payment_plan b ++ last_plan) n4
                (payment_lines pay rows ++ closing_lines lowered) two
                (leads_then bytes n2 (payment_plan b) n3 (payment_lines pay rows) last_plan n4 (closing_lines lowered) three four))

            whole : Leads bytes 0 (places_plan b) n4 [] lines_read
            whole = leads_then bytes 0 version_plan n0 version_line body_plan n4
                (opening_lines den value ++ (placing_lines order choice table withouts ++ (payment_lines pay rows ++ closing_lines lowered))) zeroth body

            reached : ReachedBy (places_plan b) bytes n4 [] (place_lines value_read)
            reached = subst (λ (ls : List Line). ReachedBy (places_plan b) bytes n4 [] ls) same_lines (whole.leads (places_plan b) [] [] start)

            -- a stop after the last line is the stop at the whole text
            pub end_stops : (stop : CertStop) → HaltsAtEnd bytes n4 stop → PlaceStopsAt b bytes stop
            end_stops stop h = place_stops b bytes stop (h (places_plan b) (place_lines value_read) reached)

            -- if nothing follows the last line, the bytes are the text of the certificate that was read
            pub text_read : length (drop n4 bytes) ≡ 0 → IsTextOf (IsPlacesText b) lines bytes (place_lines value_read)
            text_read none = reached-end bytes n4 (place_lines value_read) reached none

-- what was read of each stage makes a placement certificate
pub made : (b : ℕ) (den value : ℤ) (choice order : List ℕ) (table : List (List ℤ)) (withouts : List PlaceWithout) (pay : List ℤ) (rows : List PlaceRow)
    (lowered : List (List ℤ)) → InRange den × InRange value → IsChoice b choice → IsChoice b order → HasSets b table
    → AreParts b 1 choice withouts → (length pay ≡ b) × AllInRange pay → length rows ≤ 10 → AreRows b rows → HasSets b lowered
    → IsPlaceCertificate b (place_cert_from den value choice order table withouts pay rows lowered)
made b den value choice order table withouts pay rows lowered range c o t w p few r l = record {
  den = range.0;
  value = range.1;
  order = o;
  choice = c;
  table = t;
  withouts = w;
  pay = p;
  few = subst (λ (n : ℕ). n ≤ 10) (sym (length-map rows row_value)) few;
  rows = r;
  lowered = l;
}
