-- Two placement certificates for as many bidders with the same lines are the same.
use Rattle.std.proofs.Common.{◌≡◌, ℕ, suc, zero, ◌*◌, List, [], ◌∷◌, ◌++◌, length, refl, sym, ap, subst, ◌∙◌, arith, length-append}
use Rattle.std.specs.Prelude.{ℤ, pos, codes}
use Rattle.cert_grammar.specs.Certificate.{CertValue, RowValue, WithoutValue}
use Rattle.cert_grammar.specs.Lines.{Line}
use Rattle.cert_grammar.specs.CertText.{as_numbers, choice_line, line, table_lines}
use Rattle.cert_grammar.proofs.OneCertificate.{cut, numbers_of, numbers_same, same_cert, same_row, same_without, table_long, table_same}
use Rattle.cert_grammar.specs.PlaceCert.{PlaceCertValue}
use Rattle.placement_cert.specs.PlaceText.{IsPlaceCertificate, AreOrderedRows, AreOrderedWithouts, order_line, ordered_part_lines, ordered_row_lines, place_lines}

-- parts and their orders are the same
abbrev SameParts : List WithoutValue → List WithoutValue → List (List ℕ) → List (List ℕ) → Type 0
SameParts ws us orders others = (ws ≡ us) × (orders ≡ others)

-- rows and their orders are the same
abbrev SameRows : List RowValue → List RowValue → List (List ℕ) → List (List ℕ) → Type 0
SameRows rows rest orders others = (rows ≡ rest) × (orders ≡ others)

-- the lines of an order say it
order_same : (a b : List ℕ) → order_line a ≡ order_line b → a ≡ b
order_same a b e = numbers_same a b (numbers_of (order_line a) (order_line b) e)

-- so do those of a choice
choice_same : (a b : List ℕ) → choice_line a ≡ choice_line b → a ≡ b
choice_same a b e = numbers_same a b (numbers_of (choice_line a) (choice_line b) e)

module _ (b : ℕ) where
  parts_same : (j : ℕ) (choice : List ℕ) (ws us : List WithoutValue) (os ps : List (List ℕ)) → AreOrderedWithouts b j choice ws os
      → AreOrderedWithouts b j choice us ps → ordered_part_lines ws os ≡ ordered_part_lines us ps → SameParts ws us os ps
  parts_same j [] [] [] [] [] g h e = (refl, refl)
  parts_same j [] [] [] [] (p ∷ ps) g h e = absurd h
  parts_same j [] [] (u ∷ us) [] ps g h e = absurd h
  parts_same j [] [] us (o ∷ os) ps g h e = absurd g
  parts_same j [] (w ∷ ws) us os ps g h e = absurd g
  parts_same j (zero ∷ ns) ws us os ps g h e = parts_same (suc j) ns ws us os ps g h e
  parts_same j (suc n ∷ ns) [] us os ps g h e = absurd g
  parts_same j (suc n ∷ ns) (w ∷ ws) us [] ps g h e = absurd g
  parts_same j (suc n ∷ ns) (w ∷ ws) [] (o ∷ os) ps g h e = absurd h
  parts_same j (suc n ∷ ns) (w ∷ ws) (u ∷ us) (o ∷ os) [] g h e = absurd h
  parts_same j (suc n ∷ ns) (w ∷ ws) (u ∷ us) (o ∷ os) (p ∷ ps) g h e =
      let long : length (table_lines w.table) ≡ length (table_lines u.table) = table_long w.table ∙ g.0.table.0 ∙ sym h.0.table.0 ∙ sym (table_long u.table) in
      let orders : order_line o ≡ order_line p = cc in
      let choices : choice_line w.choice ≡ choice_line u.choice = cc in
      let behind : table_lines w.table ++ ordered_part_lines ws os ≡ table_lines u.table ++ ordered_part_lines us ps = cc in
      let parts = cut (table_lines w.table) (table_lines u.table) (ordered_part_lines ws os) (ordered_part_lines us ps) long behind in
      let winner : w.winner ≡ u.winner = g.0.winner ∙ sym h.0.winner in
      let table : w.table ≡ u.table = table_same w.table u.table parts.0 in
      let rest = parts_same (suc j) ns ws us os ps g.1 h.1 parts.1 in
      let own : w ≡ u = same_without w u winner (choice_same w.choice u.choice choices) table in
      let listed : o ≡ p = order_same o p orders in (cc (own, rest.0), cc (listed, rest.1))

  parts_long : (j : ℕ) (choice : List ℕ) (ws us : List WithoutValue) (os ps : List (List ℕ)) → AreOrderedWithouts b j choice ws os
      → AreOrderedWithouts b j choice us ps → length (ordered_part_lines ws os) ≡ length (ordered_part_lines us ps)
  parts_long j [] [] [] [] [] g h = refl
  parts_long j [] [] [] [] (p ∷ ps) g h = absurd h
  parts_long j [] [] (u ∷ us) [] ps g h = absurd h
  parts_long j [] [] us (o ∷ os) ps g h = absurd g
  parts_long j [] (w ∷ ws) us os ps g h = absurd g
  parts_long j (zero ∷ ns) ws us os ps g h = parts_long (suc j) ns ws us os ps g h
  parts_long j (suc n ∷ ns) [] us os ps g h = absurd g
  parts_long j (suc n ∷ ns) (w ∷ ws) us [] ps g h = absurd g
  parts_long j (suc n ∷ ns) (w ∷ ws) [] (o ∷ os) ps g h = absurd h
  parts_long j (suc n ∷ ns) (w ∷ ws) (u ∷ us) (o ∷ os) [] g h = absurd h
  parts_long j (suc n ∷ ns) (w ∷ ws) (u ∷ us) (o ∷ os) (p ∷ ps) g h =
      let a = length-append (table_lines w.table) (ordered_part_lines ws os) in
      let c = length-append (table_lines u.table) (ordered_part_lines us ps) in
      let r = parts_long (suc j) ns ws us os ps g.1 h.1 in
      omega (arith, a, c, r, table_long w.table, table_long u.table, g.0.table.0, h.0.table.0)

  rows_same : (rows rest : List RowValue) (os ps : List (List ℕ)) → AreOrderedRows b rows os → AreOrderedRows b rest ps
      → ordered_row_lines rows os ≡ ordered_row_lines rest ps → SameRows rows rest os ps
  rows_same [] [] [] [] g h e = (refl, refl)
  rows_same [] [] [] (p ∷ ps) g h e = absurd h
  rows_same [] [] (o ∷ os) ps g h e = absurd g
  rows_same [] (y ∷ rest) os [] g h e = absurd h
  rows_same [] (y ∷ rest) os (p ∷ ps) g h e = cc
  rows_same (x ∷ rows) rest [] ps g h e = absurd g
  rows_same (x ∷ rows) [] (o ∷ os) ps g h e = cc
  rows_same (x ∷ rows) (y ∷ rest) (o ∷ os) [] g h e = absurd h
  rows_same (x ∷ rows) (y ∷ rest) (o ∷ os) (p ∷ ps) g h e =
      let heads : line (codes "row") (as_numbers x.members) ≡ line (codes "row") (as_numbers y.members) = cc in
      let mults : line (codes "mult") (x.first ∷ x.second ∷ []) ≡ line (codes "mult") (y.first ∷ y.second ∷ []) = cc in
      let orders : order_line o ≡ order_line p = cc in
      let choices : choice_line x.choice ≡ choice_line y.choice = cc in
      let tails : ordered_row_lines rows os ≡ ordered_row_lines rest ps = cc in
      let members : x.members ≡ y.members = numbers_same x.members y.members (numbers_of _ _ heads) in
      let pair : x.first ∷ x.second ∷ [] ≡ y.first ∷ y.second ∷ [] = numbers_of _ _ mults in
      let first : x.first ≡ y.first = cc in
      let second : x.second ≡ y.second = cc in
      let others = rows_same rows rest os ps g.2 h.2 tails in
      let own : x ≡ y = same_row x y members first second (choice_same x.choice y.choice choices) in
      let listed : o ≡ p = order_same o p orders in (cc (own, others.0), cc (listed, others.1))

  rows_long : (rows : List RowValue) (os : List (List ℕ)) → AreOrderedRows b rows os → length (ordered_row_lines rows os) ≡ 4 * length rows
  rows_long [] [] g = refl
  rows_long [] (o ∷ os) g = absurd g
  rows_long (x ∷ rows) [] g = absurd g
  rows_long (x ∷ rows) (o ∷ os) g = omega (arith, rows_long rows os g.2)

  -- the lines after the parts
  abbrev last : PlaceCertValue → List Line
  last c = line (codes "pay") c.cert.pay ∷ line (codes "rows") (pos (length c.cert.rows) ∷ []) ∷
      (ordered_row_lines c.cert.rows c.row_orders ++ line (codes "lowered") [] ∷ (table_lines c.cert.lowered ++ line (codes "end") [] ∷ []))

  -- what is in them
  record SameLast (c d : PlaceCertValue) : Type 0 where
    pay : c.cert.pay ≡ d.cert.pay
    rows : SameRows c.cert.rows d.cert.rows c.row_orders d.row_orders
    lowered : c.cert.lowered ≡ d.cert.lowered

  last_same : (c d : PlaceCertValue) → IsPlaceCertificate b c → IsPlaceCertificate b d → last c ≡ last d → SameLast c d
  last_same c d g h e =
      let pays : line (codes "pay") c.cert.pay ≡ line (codes "pay") d.cert.pay = cc in
      let counts : line (codes "rows") (pos (length c.cert.rows) ∷ []) ≡ line (codes "rows") (pos (length d.cert.rows) ∷ []) = cc in
      let behind : ordered_row_lines c.cert.rows c.row_orders ++ line (codes "lowered") [] ∷ (table_lines c.cert.lowered ++ line (codes "end") [] ∷ []) ≡
      ordered_row_lines d.cert.rows d.row_orders ++ line (codes "lowered") [] ∷ (table_lines d.cert.lowered ++ line (codes "end") [] ∷ []) = cc in
      let count_list : pos (length c.cert.rows) ∷ [] ≡ pos (length d.cert.rows) ∷ [] = numbers_of _ _ counts in
      let count : length c.cert.rows ≡ length d.cert.rows = cc in
      let rows = cut (ordered_row_lines c.cert.rows c.row_orders) (ordered_row_lines d.cert.rows d.row_orders) _ _
      (omega (arith, rows_long c.cert.rows c.row_orders g.rows, rows_long d.cert.rows d.row_orders h.rows, count)) behind in
      let tables : table_lines c.cert.lowered ++ line (codes "end") [] ∷ [] ≡ table_lines d.cert.lowered ++ line (codes "end") [] ∷ [] = cc (rows.1) in
      let lowered = cut (table_lines c.cert.lowered) (table_lines d.cert.lowered) _ _
      (omega (arith, table_long c.cert.lowered, table_long d.cert.lowered, g.lowered.0, h.lowered.0)) tables in
      record {
        pay = numbers_of _ _ pays;
        rows = rows_same c.cert.rows d.cert.rows c.row_orders d.row_orders g.rows h.rows rows.0;
        lowered =
            table_same c.cert.lowered d.cert.lowered lowered.0;
      }

  -- the line `table` and a table
  abbrev named : List (List ℤ) → List Line
  named table = line (codes "table") [] ∷ table_lines table

  -- what is between the head's choice and the payments
  record SameMiddle (c d : PlaceCertValue) : Type 0 where
    table : c.cert.table ≡ d.cert.table
    parts : SameParts c.cert.withouts d.cert.withouts c.part_orders d.part_orders
    behind : last c ≡ last d

  middle_same : (c d : PlaceCertValue) → IsPlaceCertificate b c → IsPlaceCertificate b d → c.cert.choice ≡ d.cert.choice
      → (named c.cert.table ++ ordered_part_lines c.cert.withouts c.part_orders)
      ++ last c ≡ (named d.cert.table ++ ordered_part_lines d.cert.withouts d.part_orders) ++ last d → SameMiddle c d
  middle_same c d g h choice e =
      let others : AreOrderedWithouts b 1 c.cert.choice d.cert.withouts d.part_orders =
      subst (λ (x : List ℕ). AreOrderedWithouts b 1 x d.cert.withouts d.part_orders) (sym choice) h.withouts in
      let tables_long : length (named c.cert.table) ≡ length (named d.cert.table) =
      omega (arith, table_long c.cert.table, table_long d.cert.table, g.table.0, h.table.0) in
      let parts = parts_long 1 c.cert.choice c.cert.withouts d.cert.withouts c.part_orders d.part_orders g.withouts others in
      let long : length (named c.cert.table ++ ordered_part_lines c.cert.withouts c.part_orders) ≡ length
      (named d.cert.table ++ ordered_part_lines d.cert.withouts d.part_orders) =
      length-append (named c.cert.table) (ordered_part_lines c.cert.withouts c.part_orders) ∙ omega (arith, tables_long, parts)
      ∙ sym (length-append (named d.cert.table) (ordered_part_lines d.cert.withouts d.part_orders)) in
      let head = cut _ _ (last c) (last d) long e in
      let front = cut (named c.cert.table) (named d.cert.table) (ordered_part_lines c.cert.withouts c.part_orders)
      (ordered_part_lines d.cert.withouts d.part_orders) tables_long head.0 in
      let table_rest : table_lines c.cert.table ≡ table_lines d.cert.table = cc (front.0) in
      record {
        table = table_same c.cert.table d.cert.table table_rest;
        parts = parts_same 1 c.cert.choice c.cert.withouts d.cert.withouts c.part_orders
            d.part_orders g.withouts others front.1;
        behind = head.1;
      }

  -- two placement certificates for as many bidders with the same lines are the same
  pub one_place_certificate : (c d : PlaceCertValue) → IsPlaceCertificate b c → IsPlaceCertificate b d → place_lines c ≡ place_lines d → c ≡ d
  one_place_certificate c d g h e =
      let dens : line (codes "den") (c.cert.den ∷ []) ≡ line (codes "den") (d.cert.den ∷ []) = cc in
      let values : line (codes "value") (c.cert.value ∷ []) ≡ line (codes "value") (d.cert.value ∷ []) = cc in
      let orders : order_line c.order ≡ order_line d.order = cc in
      let choices : choice_line c.cert.choice ≡ choice_line d.cert.choice = cc in
      let behind : (named c.cert.table ++ ordered_part_lines c.cert.withouts c.part_orders) ++ last c ≡
      (named d.cert.table ++ ordered_part_lines d.cert.withouts d.part_orders) ++ last d = cc in
      let den_list : c.cert.den ∷ [] ≡ d.cert.den ∷ [] = numbers_of _ _ dens in
      let value_list : c.cert.value ∷ [] ≡ d.cert.value ∷ [] = numbers_of _ _ values in
      let den : c.cert.den ≡ d.cert.den = cc in
      let value : c.cert.value ≡ d.cert.value = cc in
      let choice : c.cert.choice ≡ d.cert.choice = choice_same c.cert.choice d.cert.choice choices in
      let middle = middle_same c d g h choice behind in
      let end = last_same c d g h middle.behind in
      same (same_cert c.cert d.cert den value choice middle.table middle.parts.0 end.pay end.rows.0 end.lowered)
      (order_same c.order d.order orders) middle.parts.1 end.rows.1
    where
      same : c.cert ≡ d.cert → c.order ≡ d.order → c.part_orders ≡ d.part_orders → c.row_orders ≡ d.row_orders → c ≡ d
      same cert order parts rows =
          ap (λ (z : CertValue). record { cert = z; order = c.order; part_orders = c.part_orders; row_orders = c.row_orders }) cert
          ∙ ap (λ (z : List ℕ). record { cert = d.cert; order = z; part_orders = c.part_orders; row_orders = c.row_orders }) order
          ∙ ap (λ (z : List (List ℕ)). record { cert = d.cert; order = d.order; part_orders = z; row_orders = c.row_orders }) parts
          ∙ ap (λ (z : List (List ℕ)). record { cert = d.cert; order = d.order; part_orders = d.part_orders; row_orders = z }) rows
