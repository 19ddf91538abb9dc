-- The text of a placement certificate has less than 50,000 bytes.
use Rattle.std.proofs.Common.{ℕ, zero, suc, ◌+◌, ◌≤◌, ◌<◌, ◌^◌, pos, List, [], ◌∷◌, ◌++◌, length, codes, arith}
use Rattle.std.proofs.Math.Nat.{pow-le-pow_right}
use Rattle.std.specs.Prelude.{ℤ}
use Rattle.cert_grammar.specs.Certificate.{RowValue, WithoutValue}
use Rattle.cert_grammar.specs.CertText.{IsChoice, as_numbers, choice_line, line, table_lines}
use Rattle.cert_grammar.specs.Lines.{Line}
use Rattle.cert_grammar.specs.PlaceCert.{PlaceCertValue}
use Rattle.cert_grammar.proofs.LineSizes.{choice-size, each-size, line-size, pay-size, range-short, row-size, size, size-append, table-size, text-size}
use Rattle.cert_grammar.proofs.LineSizes.{times-le}
use Rattle.line_format.proofs.Lengths.{times}
use Rattle.placement_cert.specs.PlaceSays.{place_text}
use Rattle.placement_cert.specs.PlaceText.{AreOrderedRows, AreOrderedWithouts, HasSets, IsOrderedWithout, IsPlaceCertificate, order_line}
use Rattle.placement_cert.specs.PlaceText.{ordered_part_lines, ordered_row_lines, place_lines}

module _ (b : ℕ) (few : b ≤ 6) where
  -- an order and a choice
  ordered-size : (order choice : List ℕ) → IsChoice b order → IsChoice b choice
      → size (order_line order ∷ choice_line choice ∷ []) ≤ 1261
  ordered-size order choice is_order is_choice =
      omega (arith, each-size (codes "order") b order (omega (arith, few)) is_order, choice-size b choice (omega (arith, few)) is_choice)

  -- a table over sets of at most six bidders has one line of at most 64 entries
  sets-size : (table : List (List ℤ)) → HasSets b table → size (table_lines table) ≤ 2498
  sets-size table is =
      let sets : 2 ^ b ≤ 2 ^ 6 = pow-le-pow_right (omega arith) few in
      omega (arith, is.0, table-size 2496 table (range-short (2 ^ b) 64 table sets is.1), times-le (length table) 1 2498 (omega (arith, is.0)))

  part-size : (j : ℕ) (w : WithoutValue) (order : List ℕ) → j ≤ 6 → IsOrderedWithout b j w order
      → size (line (codes "without") (pos w.winner ∷ []) ∷ order_line order ∷ choice_line w.choice ∷ line (codes "table") [] ∷ table_lines w.table) ≤ 3812
  part-size j w order low is =
      let first = line-size (codes "without") (pos w.winner ∷ []) 1 (omega (arith, is.winner, low), tt) (omega arith) in
      let third = line-size (codes "table") [] 0 tt (omega arith) in
      omega (arith, first, ordered-size order w.choice is.order is.choice, third, sets-size w.table is.table)

  parts-size : (j : ℕ) (ns : List ℕ) (ws : List WithoutValue) (orders : List (List ℕ)) → j + length ns ≤ 7
      → AreOrderedWithouts b j ns ws orders → size (ordered_part_lines ws orders) ≤ times (length ns) 3812
  parts-size j [] [] [] le is = omega arith
  parts-size j [] [] (order ∷ orders) le is = absurd is
  parts-size j [] (w ∷ ws) orders le is = absurd is
  parts-size j (zero ∷ ns) ws orders le is = omega (arith, parts-size (suc j) ns ws orders (omega (arith, le)) is)
  parts-size j (suc n ∷ ns) [] orders le is = absurd is
  parts-size j (suc n ∷ ns) (w ∷ ws) [] le is = absurd is
  parts-size j (suc n ∷ ns) (w ∷ ws) (order ∷ orders) le is =
      let own = line (codes "without") (pos w.winner ∷ []) ∷ order_line order ∷ choice_line w.choice ∷ line (codes "table") [] ∷ table_lines w.table in
      let rest = parts-size (suc j) ns ws orders (omega (arith, le)) is.1 in
      omega (arith, part-size j w order (omega (arith, le)) is.0, rest, size-append own (ordered_part_lines ws orders))

  rows-size : (rows : List RowValue) (orders : List (List ℕ)) → AreOrderedRows b rows orders
      → size (ordered_row_lines rows orders) ≤ times (length rows) 1980
  rows-size [] [] is = omega arith
  rows-size [] (order ∷ orders) is = absurd is
  rows-size (r ∷ rows) [] is = absurd is
  rows-size (r ∷ rows) (order ∷ orders) is =
      omega (
        arith,
        row-size b r (omega (arith, few)) is.0,
        each-size (codes "order") b order (omega (arith, few)) is.1,
        rows-size rows orders is.2,
      )

  module _ (c : PlaceCertValue) (is : IsPlaceCertificate b c) where
    abbrev tail : List Line
    tail = line (codes "lowered") [] ∷ (table_lines c.cert.lowered ++ line (codes "end") [] ∷ [])

    tail-size : size tail ≤ 2511
    tail-size =
        omega (
          arith,
          sets-size c.cert.lowered is.lowered,
          size-append (table_lines c.cert.lowered) (line (codes "end") [] ∷ []),
          line-size (codes "lowered") [] 0 tt (omega arith),
          line-size (codes "end") [] 0 tt (omega arith),
        )

    abbrev tables : List Line
    tables = (line (codes "table") [] ∷ table_lines c.cert.table) ++ ordered_part_lines c.cert.withouts c.part_orders

    tables-size : size tables ≤ 25376
    tables-size =
        omega (
          arith,
          sets-size c.cert.table is.table,
          parts-size 1 c.cert.choice c.cert.withouts c.part_orders (omega (arith, is.choice.0, few)) is.withouts,
          times-le (length c.cert.choice) 6 3812 (omega (arith, is.choice.0, few)),
          size-append (line (codes "table") [] ∷ table_lines c.cert.table) (ordered_part_lines c.cert.withouts c.part_orders),
          line-size (codes "table") [] 0 tt (omega arith),
        )

    abbrev payments : List Line
    payments = line (codes "pay") c.cert.pay ∷ line (codes "rows") (pos (length c.cert.rows) ∷ []) ∷ (ordered_row_lines c.cert.rows c.row_orders ++ tail)

    payments-size : size payments ≤ 22990
    payments-size =
        omega (
          arith,
          pay-size b c.cert.pay (omega (arith, few)) is.pay.0 is.pay.1,
          line-size (codes "rows") (pos (length c.cert.rows) ∷ []) 1 (omega (arith, is.few), tt) (omega arith),
          rows-size c.cert.rows c.row_orders is.rows,
          times-le (length c.cert.rows) 10 1980 is.few,
          size-append (ordered_row_lines c.cert.rows c.row_orders) tail,
          tail-size,
        )

    -- its text has less than 50,000 bytes
    pub short : length (place_text c) < 50000
    short =
        omega (
          arith,
          text-size 0 (place_lines c),
          line-size (codes "pcert") (pos 1 ∷ []) 1 (omega arith, tt) (omega arith),
          line-size (codes "den") (c.cert.den ∷ []) 1 (omega (arith, is.den), tt) (omega arith),
          line-size (codes "value") (c.cert.value ∷ []) 1 (omega (arith, is.value), tt) (omega arith),
          ordered-size c.order c.cert.choice is.order is.choice,
          size-append tables payments,
          tables-size,
          payments-size,
        )
