-- No line of a placement certificate is out of range, and so its lines are a text that states it.
use Rattle.std.proofs.Common.{◌≡◌, ℕ, suc, zero, ◌+◌, ◌≤◌, ◌<◌, ◌^◌, false, List, [], ◌∷◌, ◌++◌, length, refl, arith}
use Rattle.std.specs.Prelude.{pos, codes}
use Rattle.line_format.specs.LineText.{IsTextOf, text_of}
use Rattle.cert_grammar.specs.Certificate.{RowValue, WithoutValue}
use Rattle.cert_grammar.specs.Lines.{IsPlacesText, lines}
use Rattle.cert_grammar.specs.CertText.{IsChoice, as_numbers, choice_line, line, table_lines}
use Rattle.cert_grammar.proofs.Ranges.{Within, all_in_range, low_members, no_excess, one_in_range, small_numbers, table_within, within_append}
use Rattle.line_format.specs.Range.{any_out}
use Rattle.cert_grammar.specs.PlaceCert.{PlaceCertValue}
use Rattle.placement_cert.specs.PlaceText.{IsPlaceCertificate, AreOrderedRows, AreOrderedWithouts, order_line, ordered_part_lines, ordered_row_lines, place_lines}
use Rattle.placement_cert.proofs.Follows.{places_follow}

-- the numbers of a choice or an order
choice_within : (b : ℕ) (choice : List ℕ) → IsChoice b choice → any_out (as_numbers choice) ≡ false
choice_within b choice h = small_numbers 65535 choice (omega arith) h.1

module _ (b : ℕ) (small : b < 2 ^ 100) where
  parts_within : (j : ℕ) (choice : List ℕ) (ws : List WithoutValue) (orders : List (List ℕ)) → j + length choice ≤ b + 1
      → AreOrderedWithouts b j choice ws orders → Within (ordered_part_lines ws orders)
  parts_within j [] [] [] le h = tt
  parts_within j [] [] (order ∷ orders) le h = absurd h
  parts_within j [] (w ∷ ws) orders le h = absurd h
  parts_within j (zero ∷ ns) ws orders le h = parts_within (suc j) ns ws orders (omega (arith, le)) h
  parts_within j (suc n ∷ ns) [] orders le h = absurd h
  parts_within j (suc n ∷ ns) (w ∷ ws) [] le h = absurd h
  parts_within j (suc n ∷ ns) (w ∷ ws) (order ∷ orders) le h =
      within_append (line (codes "without") (pos w.winner ∷ []) ∷ order_line order ∷ choice_line w.choice ∷ line (codes "table") [] ∷ table_lines w.table)
      (ordered_part_lines ws orders) (
        one_in_range (pos w.winner) (omega (arith, small, le, h.0.winner)),
        (
          choice_within b order h.0.order,
          (choice_within b w.choice h.0.choice, (refl, table_within b (2 ^ b) small w.table h.0.table.1)),
        ),
      )
      (parts_within (suc j) ns ws orders (omega (arith, le)) h.1)

  rows_within : (rows : List RowValue) (orders : List (List ℕ)) → AreOrderedRows b rows orders → Within (ordered_row_lines rows orders)
  rows_within [] [] h = tt
  rows_within [] (order ∷ orders) h = absurd h
  rows_within (r ∷ rows) [] h = absurd h
  rows_within (r ∷ rows) (order ∷ orders) h = (
    small_numbers b r.members (omega (arith, small)) (low_members b 0 r.members h.0.members),
    (
      all_in_range (r.first ∷ r.second ∷ []) (h.0.range.0, (h.0.range.1, tt)),
      (
        choice_within b order h.1,
        (choice_within b r.choice h.0.choice, rows_within rows orders h.2),
      ),
    ),
  )

  module _ (c : PlaceCertValue) (h : IsPlaceCertificate b c) where
    last_within : Within (line (codes "lowered") [] ∷ (table_lines c.cert.lowered ++ line (codes "end") [] ∷ []))
    last_within = (
      refl,
      within_append (table_lines c.cert.lowered) (line (codes "end") [] ∷ []) (table_within b (2 ^ b) small c.cert.lowered h.lowered.1)
          (refl, tt),
    )

    parts_all : Within ((line (codes "table") [] ∷ table_lines c.cert.table) ++ ordered_part_lines c.cert.withouts c.part_orders)
    parts_all = within_append (line (codes "table") [] ∷ table_lines c.cert.table) (ordered_part_lines c.cert.withouts c.part_orders)
        (refl, table_within b (2 ^ b) small c.cert.table h.table.1)
        (parts_within 1 c.cert.choice c.cert.withouts c.part_orders (omega (arith, h.choice.0)) h.withouts)

    tail_within : Within (line (codes "pay") c.cert.pay ∷ line (codes "rows") (pos (length c.cert.rows) ∷ []) ∷
        (ordered_row_lines c.cert.rows c.row_orders ++ line (codes "lowered") [] ∷ (table_lines c.cert.lowered ++ line (codes "end") [] ∷ [])))
    tail_within = (
      all_in_range c.cert.pay h.pay.1,
      (
        one_in_range (pos (length c.cert.rows)) (omega (arith, h.few)),
        within_append (ordered_row_lines c.cert.rows c.row_orders) _ (rows_within c.cert.rows c.row_orders h.rows) last_within,
      ),
    )

    all_within : Within (place_lines c)
    all_within = (
      refl,
      (
        one_in_range c.cert.den h.den,
        (
          one_in_range c.cert.value h.value,
          (
            choice_within b c.order h.order,
            (
              choice_within b c.cert.choice h.choice,
              within_append ((line (codes "table") [] ∷ table_lines c.cert.table)
                  ++ ordered_part_lines c.cert.withouts c.part_orders) _ parts_all tail_within,
            ),
          ),
        ),
      ),
    )

    -- the text of a placement certificate states it
    pub places_state : IsTextOf (IsPlacesText b) lines (text_of (lines (place_lines c))) (place_lines c)
    places_state = record { valid = places_follow b c h; spelled = refl; within = no_excess 0 (place_lines c) all_within }
