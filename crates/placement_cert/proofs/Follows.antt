-- The lines of a placement certificate follow the plan.
use Rattle.std.proofs.Common.{ℕ, suc, zero, ◌<◌, ◌^◌, List, [], ◌∷◌, ◌++◌, length, refl, ap, arith}
use Rattle.std.specs.Prelude.{ℤ, pos, codes}
use Rattle.cert_grammar.specs.Certificate.{RowValue, WithoutValue}
use Rattle.cert_grammar.specs.Plan.{Follows}
use Rattle.cert_grammar.specs.Lines.{Fits, IsPlacesText, Kind, Line, after, kind, ordered_count, ordered_part_plan, ordered_parts_plan}
use Rattle.cert_grammar.specs.Lines.{ordered_rows_plan, set_table_plan, signed, these}
use Rattle.cert_grammar.specs.CertText.{as_numbers, choice_line, line, table_lines}
use Rattle.cert_grammar.proofs.PlanReads.{follows_both}
use Rattle.cert_grammar.proofs.Written.{choice_fits, long_numbers, rise, some_member, table_follows}
use Rattle.cert_grammar.specs.PlaceCert.{PlaceCertValue}
use Rattle.placement_cert.specs.PlaceText.{AreOrderedRows, AreOrderedWithouts, HasSets, IsPlaceCertificate, order_line, ordered_part_lines}
use Rattle.placement_cert.specs.PlaceText.{ordered_row_lines, place_lines}

-- the lines of a table over sets
sets_follow : (b : ℕ) (table : List (List ℤ)) → HasSets b table → Follows Fits after (set_table_plan b) (table_lines table)
sets_follow b table h = table_follows 1 (2 ^ b) table h.0 h.1

parts_follow : (b j : ℕ) (choice : List ℕ) (ws : List WithoutValue) (orders : List (List ℕ)) → AreOrderedWithouts b j choice ws orders
    → Follows Fits after (ordered_parts_plan b j (as_numbers choice)) (ordered_part_lines ws orders)
parts_follow b j [] [] [] h = tt
parts_follow b j [] [] (order ∷ orders) h = absurd h
parts_follow b j [] (w ∷ ws) orders h = absurd h
parts_follow b j (zero ∷ ns) ws orders h = parts_follow b (suc j) ns ws orders h
parts_follow b j (suc n ∷ ns) [] orders h = absurd h
parts_follow b j (suc n ∷ ns) (w ∷ ws) [] h = absurd h
parts_follow b j (suc n ∷ ns) (w ∷ ws) (order ∷ orders) h =
    follows_both Fits after (ordered_part_plan b j) (ordered_parts_plan b (suc j) (as_numbers ns))
    (line (codes "without") (pos w.winner ∷ []) ∷ order_line order ∷ choice_line w.choice ∷ line (codes "table") [] ∷ table_lines w.table)
    (ordered_part_lines ws orders) (
      record { word = refl; numbers = ap (λ (x : ℕ). pos x ∷ []) h.0.winner },
      (
        record { word = refl; numbers = choice_fits b order h.0.order },
        (record { word = refl; numbers = choice_fits b w.choice h.0.choice }, (record { word = refl; numbers = refl }, sets_follow b w.table h.0.table)),
      ),
    )
    (parts_follow b (suc j) ns ws orders h.1)

rows_follow : (b : ℕ) (rows : List RowValue) (orders : List (List ℕ)) → AreOrderedRows b rows orders
    → Follows Fits after (ordered_rows_plan b (length rows)) (ordered_row_lines rows orders)
rows_follow b [] [] h = tt
rows_follow b [] (order ∷ orders) h = absurd h
rows_follow b (r ∷ rows) [] h = absurd h
rows_follow b (r ∷ rows) (order ∷ orders) h = (
  record { word = refl; numbers = (omega (arith, h.0.some, long_numbers r.members), rise b 0 r.members h.0.members) },
  (
    record { word = refl; numbers = refl },
    (
      record { word = refl; numbers = choice_fits b order h.1 },
      (
        record { word = refl; numbers = choice_fits b r.choice h.0.choice },
        rows_follow b rows orders h.2,
      ),
    ),
  ),
)

-- if there is a row there is a bidder
some_bidder : (b : ℕ) (rows : List RowValue) (orders : List (List ℕ)) → AreOrderedRows b rows orders → 0 < length rows → 0 < b
some_bidder b [] orders h some = absurd (omega arith)
some_bidder b (r ∷ rows) [] h some = absurd h
some_bidder b (r ∷ rows) (order ∷ orders) h some = some_member b r.members h.0.some h.0.members

module _ (b : ℕ) (c : PlaceCertValue) (h : IsPlaceCertificate b c) where
  abbrev last_kinds : List Kind
  last_kinds = kind (codes "lowered") (these []) ∷ (set_table_plan b ++ kind (codes "end") (these []) ∷ [])

  abbrev last_lines : List Line
  last_lines = line (codes "lowered") [] ∷ (table_lines c.cert.lowered ++ line (codes "end") [] ∷ [])

  last_follows : Follows Fits after last_kinds last_lines
  last_follows = (
    record { word = refl; numbers = refl },
    follows_both Fits after (set_table_plan b) (kind (codes "end") (these []) ∷ []) (table_lines c.cert.lowered) (line (codes "end") [] ∷ [])
        (sets_follow b c.cert.lowered h.lowered) (record { word = refl; numbers = refl }, tt),
  )

  abbrev pay_kinds : List Kind
  pay_kinds = kind (codes "pay") (signed b) ∷ kind (codes "rows") (ordered_count b) ∷ last_kinds

  abbrev pay_lines : List Line
  pay_lines = line (codes "pay") c.cert.pay ∷ line (codes "rows") (pos (length c.cert.rows) ∷ []) ∷ (ordered_row_lines c.cert.rows c.row_orders ++ last_lines)

  pay_follows : Follows Fits after pay_kinds pay_lines
  pay_follows = (
    record { word = refl; numbers = h.pay.0 },
    (
      record { word = refl; numbers = (length c.cert.rows, refl, h.few, some_bidder b c.cert.rows c.row_orders h.rows) },
      follows_both Fits after (ordered_rows_plan b (length c.cert.rows)) last_kinds (ordered_row_lines c.cert.rows c.row_orders) last_lines
          (rows_follow b c.cert.rows c.row_orders h.rows) last_follows,
    ),
  )

  abbrev table_kinds : List Kind
  table_kinds = kind (codes "table") (these []) ∷ set_table_plan b

  abbrev named_lines : List Line
  named_lines = line (codes "table") [] ∷ table_lines c.cert.table

  abbrev parts_kinds : List Kind
  parts_kinds = ordered_parts_plan b 1 (as_numbers c.cert.choice)

  -- a placement certificate's lines are those of the plan
  pub places_follow : IsPlacesText b (place_lines c)
  places_follow =
      let tables = follows_both Fits after table_kinds parts_kinds named_lines (ordered_part_lines c.cert.withouts c.part_orders)
      (record { word = refl; numbers = refl }, sets_follow b c.cert.table h.table)
      (parts_follow b 1 c.cert.choice c.cert.withouts c.part_orders h.withouts) in
      let behind = follows_both Fits after (table_kinds ++ parts_kinds) pay_kinds (named_lines ++ ordered_part_lines c.cert.withouts c.part_orders) pay_lines
      tables pay_follows in (
        record { word = refl; numbers = refl },
        (
          record { word = refl; numbers = refl },
          (
            record { word = refl; numbers = refl },
            (record { word = refl; numbers = choice_fits b c.order h.order }, (record { word = refl; numbers = choice_fits b c.cert.choice h.choice }, behind)),
          ),
        ),
      )
