-- A certificate, from the stages of its text.
use Rattle.std.proofs.Common.{Bool, List, [], ap, arith, drop, false, inl, inr, length, length-drop, refl, subst, suc, sym, take, true, ℕ, ◌++◌, ◌+◌}
use Rattle.std.proofs.Common.{◌<◌, ◌∙◌, ◌∷◌, ◌≡◌, ◌≤◌, ◌⊎◌}
use Rattle.std.specs.Prelude.{ℤ, map, ◌==◌}
use Rattle.std.proofs.lemmas.Bool.{eqb-false}
use Rattle.std.proofs.lemmas.List.{append-nil}
use Rattle.line_format.specs.LineText.{IsLine, IsTextOf}
use Rattle.cert_grammar.specs.Certificate.{CertValue}
use Rattle.cert_grammar.specs.Lines.{Line, Kind, version_lines, version_plan, body_plan, cert_plan, IsCertText, lines}
use Rattle.cert_grammar.specs.CertText.{IsChoice, IsTable, AreWithouts, AreRows, IsCertificate, body_lines, cert_lines}
use Rattle.wide_num.specs.Range.{InRange}
use Rattle.line_format.specs.Range.{AllInRange}
use Rattle.cert_grammar.specs.Reading.{Reached}
use Rattle.cert_grammar.proofs.Version.{version_is}
use Rattle.cert_grammar.proofs.Reading.{reached-start, reached-end, reached-more, reached-tail}
use Rattle.cert_text.specs.declared.certificate.CertRow.{CertRow}
use Rattle.cert_text.specs.declared.certificate.WithoutPart.{WithoutPart}
use Rattle.cert_text.specs.declared.stop.CertStop.{CertStop}
use Rattle.cert_text.specs.declared.stop.CertStop.TheVariants.{Form, Range, Memory}
use Rattle.cert_text.specs.Parts.{without_value, row_value, cert_from}
use Rattle.cert_text.specs.StagePlans.{opening_plan, opening_lines, winning_kind, winning_lines, payment_plan, payment_lines, closing_plan, closing_lines}
use Rattle.cert_text.specs.Stops.{StopsAt, StopsBy}
use Rattle.cert_text.specs.Readers.{Leads, Halts, HaltsAtEnd}
use Rattle.cert_text.proofs.PlanSteps.{leads_then, halts_before, halts_then}

-- the bytes have a line with its line feed, or none
first_feed : (bytes : List ℕ) → IsLine bytes ⊎ ((n : ℕ) × IsLine (take n bytes) × (drop n bytes ≡ 10 ∷ drop (n + 1) bytes))
first_feed [] = inl tt
first_feed (c ∷ bytes) = first (c == 10) refl (first_feed bytes)
  where
    first : (b : Bool) → (c == 10) ≡ b → IsLine bytes ⊎ ((n : ℕ) × IsLine (take n bytes) × (drop n bytes ≡ 10 ∷ drop (n + 1) bytes))
        → IsLine (c ∷ bytes) ⊎ ((n : ℕ) × IsLine (take n (c ∷ bytes)) × (drop n (c ∷ bytes) ≡ 10 ∷ drop (n + 1) (c ∷ bytes)))
    first true is rest = inr (0, tt, ap (λ (x : ℕ). x ∷ bytes) (feed c is))
      where
        feed : (c : ℕ) → (c == 10) ≡ true → c ≡ 10
        feed c is = grind (arith, is)
    first false is (inl none) = inl (eqb-false c 10 is, none)
    first false is (inr found) = inr (
      suc found.0,
      (eqb-false c 10 is, found.1),
      found.2 ∙ ap (λ (l : List ℕ). 10 ∷ l)
          (ap (λ (n : ℕ). drop n (c ∷ bytes)) more),
    )
      where
        more : suc (found.0 + 1) ≡ suc found.0 + 1
        more = omega arith

-- if nothing is to come, bytes that are left are a faulty line
pub end_halts : (bytes : List ℕ) (place : ℕ) → place < length bytes → HaltsAtEnd bytes place (Form place)
end_halts bytes place lt whole items here = elim (first_feed (drop place bytes)) [
  | inl none ↦ reached-tail bytes place items here none (omega (arith, length-drop place bytes, lt))
  | inr found ↦ reached-more bytes place items here found.0 found.1 found.2
]

-- what the bytes say as a text by the plan of a certificate, they say of a certificate
cert_stops : (b s : ℕ) (bytes : List ℕ) (stop : CertStop) → StopsBy (cert_plan b s) bytes stop → StopsAt b s bytes stop
cert_stops b s bytes (Form place) h = h
cert_stops b s bytes (Range place) h = h
cert_stops b s bytes Memory h = tt

module _ (b s : ℕ) (bytes : List ℕ) where
  start : Reached b s bytes 0 (cert_plan b s ++ []) []
  start = subst (λ (p : List Kind). Reached b s bytes 0 p []) (sym (append-nil (cert_plan b s))) (reached-start b s bytes)

  stops : (stop : CertStop) → Halts bytes 0 (cert_plan b s) stop → StopsAt b s bytes stop
  stops stop h = cert_stops b s bytes stop (h.halts (cert_plan b s) [] [] start)

  -- a stop in the lines of the version is what the bytes say
  pub version_stops : (stop : CertStop) → Halts bytes 0 (version_plan b s) stop → StopsAt b s bytes stop
  version_stops stop h = stops stop (halts_before bytes 0 (version_plan b s) stop (body_plan b s) h)

  module _ (n0 : ℕ) (zeroth : Leads bytes 0 (version_plan b s) n0 [] (version_lines b s)) where
    from_opening : (stop : CertStop) → Halts bytes n0 (body_plan b s) stop → StopsAt b s bytes stop
    from_opening stop h = stops stop (halts_then bytes 0 (version_plan b s) n0 (version_lines b s) (body_plan b s) stop zeroth h)

    -- and so is one in the opening, after the version
    pub opening_stops : (stop : CertStop) → Halts bytes n0 opening_plan stop → StopsAt b s bytes stop
    opening_stops stop h = from_opening stop (halts_before bytes n0 opening_plan stop (winning_kind b s ∷ (payment_plan b ++ closing_plan b s)) h)

    module _ (den value : ℤ) (n1 : ℕ) (one : Leads bytes n0 opening_plan n1 [] (opening_lines den value)) where
      from_winning : (stop : CertStop) → Halts bytes n1 (winning_kind b s ∷ (payment_plan b ++ closing_plan b s)) stop → StopsAt b s bytes stop
      from_winning stop h = from_opening stop (halts_then bytes n0 opening_plan n1 (opening_lines den value)
          (winning_kind b s ∷ (payment_plan b ++ closing_plan b s)) stop one h)

      -- one at the winning choice, its table and its parts, after the opening
      pub winning_stops : (stop : CertStop) → Halts bytes n1 (winning_kind b s ∷ []) stop → StopsAt b s bytes stop
      winning_stops stop h = from_winning stop (halts_before bytes n1 (winning_kind b s ∷ []) stop (payment_plan b ++ closing_plan b s) h)

      module _ (choice : List ℕ) (table : List (List ℤ)) (withouts : List WithoutPart) (n2 : ℕ)
          (two : Leads bytes n1 (winning_kind b s ∷ []) n2 [] (winning_lines choice table (map without_value withouts))) where
        from_payments : (stop : CertStop) → Halts bytes n2 (payment_plan b ++ closing_plan b s) stop → StopsAt b s bytes stop
        from_payments stop h = from_winning stop (halts_then bytes n1 (winning_kind b s ∷ []) n2 (winning_lines choice table (map without_value withouts))
            (payment_plan b ++ closing_plan b s) stop two h)

        -- one in the payments and rows, after the parts
        pub payment_stops : (stop : CertStop) → Halts bytes n2 (payment_plan b) stop → StopsAt b s bytes stop
        payment_stops stop h = from_payments stop (halts_before bytes n2 (payment_plan b) stop (closing_plan b s) h)

        module _ (pay : List ℤ) (rows : List CertRow) (n3 : ℕ) (three : Leads bytes n2 (payment_plan b) n3 [] (payment_lines pay (map row_value rows))) where
          -- one in the lowered table and the last line, after the rows
          pub closing_stops : (stop : CertStop) → Halts bytes n3 (closing_plan b s) stop → StopsAt b s bytes stop
          closing_stops stop h = from_payments stop (halts_then bytes n2 (payment_plan b) n3 (payment_lines pay (map row_value rows))
              (closing_plan b s) stop three h)

          module _ (lowered : List (List ℤ)) (n4 : ℕ) (four : Leads bytes n3 (closing_plan b s) n4 [] (closing_lines lowered)) where
            abbrev value_read : CertValue
            value_read = cert_from den value choice table withouts pay rows lowered

            body : Leads bytes n0 (body_plan b s) n4 [] (body_lines value_read)
            body = leads_then bytes n0 opening_plan n1 (opening_lines den value) (winning_kind b s ∷ (payment_plan b ++ closing_plan b s)) n4
                (winning_lines choice table (map without_value withouts) ++ (payment_lines pay (map row_value rows) ++ closing_lines lowered)) one
                (leads_then bytes n1 (winning_kind b s ∷ []) n2 (winning_lines choice table (map without_value withouts))
                (payment_plan b ++ closing_plan b s) n4 (payment_lines pay (map row_value rows) ++ closing_lines lowered) two
                (leads_then bytes n2 (payment_plan b) n3 (payment_lines pay (map row_value rows)) (closing_plan b s) n4 (closing_lines lowered) three four))

            whole : Leads bytes 0 (cert_plan b s) n4 [] (version_lines b s ++ body_lines value_read)
            whole = leads_then bytes 0 (version_plan b s) n0 (version_lines b s) (body_plan b s) n4 (body_lines value_read) zeroth body

            reached : Reached b s bytes n4 [] (version_lines b s ++ body_lines value_read)
            reached = whole.leads (cert_plan b s) [] [] start

            -- and one after the last line
            pub end_stops : (stop : CertStop) → HaltsAtEnd bytes n4 stop → StopsAt b s bytes stop
            end_stops stop h = cert_stops b s bytes stop (h (cert_plan b s) (version_lines b s ++ body_lines value_read) reached)

            -- if no bytes are left, they are the text of the certificate that was read
            pub text_read : IsCertificate b s value_read → length (drop n4 bytes) ≡ 0 → IsTextOf (IsCertText b s) lines bytes (cert_lines value_read)
            text_read is none = reached-end bytes n4 (cert_lines value_read) (subst
                (λ (ls : List Line). Reached b s bytes n4 [] (ls ++ body_lines value_read)) (sym (version_is b s value_read is)) reached) none

-- what was read of each stage makes a certificate
pub made : (b s : ℕ) (den value : ℤ) (choice : List ℕ) (table : List (List ℤ)) (withouts : List WithoutPart) (pay : List ℤ) (rows : List CertRow)
    (lowered : List (List ℤ)) → InRange den × InRange value → IsChoice b choice → IsTable b s table
    → AreWithouts b s 1 choice (map without_value withouts) → (length pay ≡ b) × AllInRange pay → length (map row_value rows) ≤ 10
    → AreRows b (map row_value rows) → IsTable b s lowered → IsCertificate b s (cert_from den value choice table withouts pay rows lowered)
made b s den value choice table withouts pay rows lowered range c t w p few r l =
    record { den = range.0; value = range.1; choice = c; table = t; withouts = w; pay = p; few = few; rows = r; lowered = l }
