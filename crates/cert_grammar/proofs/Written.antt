-- The lines of a certificate follow the plan, and none is out of range.
use Rattle.std.proofs.Common.{◌≡◌, ℕ, suc, zero, ◌<◌, List, [], ◌∷◌, ◌++◌, length, refl, sym, ap, subst, ◌∙◌, arith}
use Rattle.std.specs.Prelude.{ℤ, pos, replicate, codes}
use Rattle.std.proofs.lemmas.Int.{ints}
use Rattle.cert_grammar.specs.Certificate.{CertValue, WithoutValue, RowValue}
use Rattle.cert_grammar.specs.Plan.{Follows}
use Rattle.cert_grammar.specs.Lines.{AreNumbers, Fits, IsCertText, Line, Rise, after, body_plan, counted, kind, part_plan, parts_plan, rows_plan, signed}
use Rattle.cert_grammar.specs.Lines.{table_plan, these, version_lines, version_plan}
use Rattle.cert_grammar.specs.CertText.{AreMembers, AreRows, AreTableLines, AreWithouts, AtMost, IsCertificate, IsChoice, as_numbers, body_lines}
use Rattle.cert_grammar.specs.CertText.{cert_lines, choice_line, line, part_lines, row_lines, table_lines}
use Rattle.cert_grammar.proofs.PlanReads.{follows_both}
use Rattle.cert_grammar.proofs.Version.{just_these, version_is}

-- as the numbers of a line, natural numbers are as many
pub long_numbers : (ns : List ℕ) → length (as_numbers ns) ≡ length ns
long_numbers [] = refl
long_numbers (n ∷ ns) = ap suc (long_numbers ns)

low_numbers : (most : ℕ) (ns : List ℕ) → AtMost most ns → AreNumbers most (as_numbers ns)
low_numbers most [] h = tt
low_numbers most (n ∷ ns) h = (omega (arith, ints), omega (arith, ints, h.0), low_numbers most ns h.1)

-- the line of a choice has a number of at most 65,535 for each bidder
pub choice_fits : (b : ℕ) (choice : List ℕ) → IsChoice b choice → (length (as_numbers choice) ≡ b) × AreNumbers 65535 (as_numbers choice)
choice_fits b choice h = (long_numbers choice ∙ h.0, low_numbers 65535 choice h.1)

-- the lines of a table of n are those of a plan of n such lines
pub table_follows : (n s : ℕ) (table : List (List ℤ)) → length table ≡ n → AreTableLines s table → Follows Fits after
    (replicate n (kind (codes "t") (signed s))) (table_lines table)
table_follows zero s [] e h = tt
table_follows zero s (t ∷ table) e h = absurd (omega (arith, e))
table_follows (suc n) s [] e h = absurd (omega (arith, e))
table_follows (suc n) s (t ∷ table) e h = (record { word = refl; numbers = h.0 }, table_follows n s table (omega (arith, e)) h.2)

parts_follow : (b s j : ℕ) (choice : List ℕ) (ws : List WithoutValue) → AreWithouts b s j choice ws → Follows Fits after
    (parts_plan b s j (as_numbers choice)) (part_lines ws)
parts_follow b s j [] [] h = tt
parts_follow b s j [] (w ∷ ws) h = absurd h
parts_follow b s j (zero ∷ ns) ws h = parts_follow b s (suc j) ns ws h
parts_follow b s j (suc n ∷ ns) [] h = absurd h
parts_follow b s j (suc n ∷ ns) (w ∷ ws) h =
    follows_both Fits after (part_plan b s j) (parts_plan b s (suc j) (as_numbers ns))
    (line (codes "without") (pos w.winner ∷ []) ∷ choice_line w.choice ∷ line (codes "table") [] ∷ table_lines w.table) (part_lines ws) (
      record { word = refl; numbers = ap (λ (x : ℕ). pos x ∷ []) h.0.winner },
      (
        record { word = refl; numbers = choice_fits b w.choice h.0.choice },
        (record { word = refl; numbers = refl }, table_follows (suc b) s w.table h.0.table.0 h.0.table.1),
      ),
    )
    (parts_follow b s (suc j) ns ws h.1)

-- as the numbers of a line, members are each above the one before and at most the number of bidders
pub rise : (b before : ℕ) (js : List ℕ) → AreMembers b before js → Rise b (pos before) (as_numbers js)
rise b before [] h = tt
rise b before (j ∷ js) h = (omega (arith, ints, h.0), omega (arith, ints, h.1), rise b j js h.2)

rows_follow : (b : ℕ) (rows : List RowValue) → AreRows b rows → Follows Fits after (rows_plan b (length rows)) (row_lines rows)
rows_follow b [] h = tt
rows_follow b (r ∷ rows) h = (
  record { word = refl; numbers = (omega (arith, h.0.some, long_numbers r.members), rise b 0 r.members h.0.members) },
  (record { word = refl; numbers = refl }, (record { word = refl; numbers = choice_fits b r.choice h.0.choice }, rows_follow b rows h.1)),
)

-- if there is a member there is a bidder
pub some_member : (b : ℕ) (js : List ℕ) → 0 < length js → AreMembers b 0 js → 0 < b
some_member b [] some m = absurd (omega arith)
some_member b (j ∷ js) some m = omega (arith, m.0, m.1)

some_bidder : (b : ℕ) (rows : List RowValue) → AreRows b rows → 0 < length rows → 0 < b
some_bidder b [] h some = absurd (omega arith)
some_bidder b (r ∷ rows) h some = some_member b r.members h.0.some h.0.members

-- the lines after the version are those of their plan
body_follows : (b s : ℕ) (c : CertValue) → IsCertificate b s c → Follows Fits after (body_plan b s) (body_lines c)
body_follows b s c h =
    let rest : Follows Fits after (kind (codes "pay") (signed b) ∷ kind (codes "rows") (counted b) ∷ kind (codes "lowered") (these []) ∷
    (table_plan b s ++ kind (codes "end") (these []) ∷ []))
    (line (codes "pay") c.pay ∷ line (codes "rows") (pos (length c.rows) ∷ []) ∷
    (row_lines c.rows ++ line (codes "lowered") [] ∷ (table_lines c.lowered ++ line (codes "end") [] ∷ []))) = (
      record { word = refl; numbers = h.pay.0 },
      (
        record { word = refl; numbers = (length c.rows, refl, h.few, some_bidder b c.rows h.rows) },
        follows_both Fits after (rows_plan b (length c.rows)) (kind (codes "lowered") (these []) ∷ (table_plan b s ++ kind (codes "end") (these []) ∷ []))
            (row_lines c.rows) (line (codes "lowered") [] ∷ (table_lines c.lowered ++ line (codes "end") [] ∷ [])) (rows_follow b c.rows h.rows) (
              record { word = refl; numbers = refl },
              follows_both Fits after (table_plan b s) (kind (codes "end") (these []) ∷ []) (table_lines c.lowered) (line (codes "end") [] ∷ [])
                  (table_follows (suc b) s c.lowered h.lowered.0 h.lowered.1)
                  (record { word = refl; numbers = refl }, tt),
            ),
      ),
    ) in (
      record { word = refl; numbers = refl },
      (
        record { word = refl; numbers = refl },
        (
          record { word = refl; numbers = choice_fits b c.choice h.choice },
          follows_both Fits after ((kind (codes "table") (these []) ∷ table_plan b s) ++ parts_plan b s 1 (as_numbers c.choice))
              (kind (codes "pay") (signed b) ∷ kind (codes "rows") (counted b) ∷ kind (codes "lowered") (these []) ∷
              (table_plan b s ++ kind (codes "end") (these []) ∷ []))
              ((line (codes "table") [] ∷ table_lines c.table) ++ part_lines c.withouts)
              (line (codes "pay") c.pay ∷ line (codes "rows") (pos (length c.rows) ∷ []) ∷
              (row_lines c.rows ++ line (codes "lowered") [] ∷ (table_lines c.lowered ++ line (codes "end") [] ∷ [])))
              (follows_both Fits after (kind (codes "table") (these []) ∷ table_plan b s) (parts_plan b s 1 (as_numbers c.choice))
              (line (codes "table") [] ∷ table_lines c.table) (part_lines c.withouts)
              (record { word = refl; numbers = refl }, table_follows (suc b) s c.table h.table.0 h.table.1) (parts_follow b s 1 c.choice c.withouts h.withouts))
              rest,
        ),
      ),
    )

-- a certificate's lines are those of the plan
pub written : (b s : ℕ) (c : CertValue) → IsCertificate b s c → IsCertText b s (cert_lines c)
written b s c h = subst (λ (ls : List Line). IsCertText b s (ls ++ body_lines c)) (sym (version_is b s c h))
    (follows_both Fits after (version_plan b s) (body_plan b s) (version_lines b s) (body_lines c) (just_these (version_lines b s)) (body_follows b s c h))
