-- Two certificates of one shape with the same lines are the same.
use Rattle.std.proofs.Common.{◌≡◌, ℕ, suc, zero, ◌*◌, List, [], ◌∷◌, ◌++◌, length, refl, sym, ap, subst, ◌∙◌, arith, length-append}
use Rattle.std.specs.Prelude.{ℤ, pos, codes}
use Rattle.cert_grammar.specs.Certificate.{CertValue, WithoutValue, RowValue}
use Rattle.cert_grammar.specs.Lines.{Line}
use Rattle.cert_grammar.specs.CertText.{line, as_numbers, choice_line, table_lines, part_lines, row_lines, body_lines, cert_lines, AreWithouts, IsCertificate}
use Rattle.cert_grammar.proofs.Version.{version_is}

-- two lists cut at the same length
pub cut : (xs us ys vs : List Line) → length xs ≡ length us → xs ++ ys ≡ us ++ vs → (xs ≡ us) × (ys ≡ vs)
cut [] [] ys vs e q = (refl, q)
cut [] (u ∷ us) ys vs e q = absurd (omega (arith, e))
cut (x ∷ xs) [] ys vs e q = absurd (omega (arith, e))
cut (x ∷ xs) (u ∷ us) ys vs e q =
    let heads : x ≡ u = cc in
    let tails : xs ++ ys ≡ us ++ vs = cc in
    let rest = cut xs us ys vs (omega (arith, e)) tails in (cc (heads, rest.0), rest.1)

-- lists of natural numbers are equal if they are so as the numbers of a line
pub numbers_same : (a b : List ℕ) → as_numbers a ≡ as_numbers b → a ≡ b
numbers_same [] [] e = refl
numbers_same [] (y ∷ b) e = cc
numbers_same (x ∷ a) [] e = cc
numbers_same (x ∷ a) (y ∷ b) e =
    let heads : x ≡ y = cc in
    let tails : as_numbers a ≡ as_numbers b = cc in
    let rest = numbers_same a b tails in cc (heads, rest)

-- equal lines have equal numbers
pub numbers_of : (l k : Line) → l ≡ k → l.numbers ≡ k.numbers
numbers_of l k e = ap (λ (x : Line). x.numbers) e

-- tables whose lines are equal are equal
pub table_same : (a b : List (List ℤ)) → table_lines a ≡ table_lines b → a ≡ b
table_same [] [] e = refl
table_same [] (y ∷ b) e = cc
table_same (x ∷ a) [] e = cc
table_same (x ∷ a) (y ∷ b) e =
    let heads : line (codes "t") x ≡ line (codes "t") y = cc in
    let tails : table_lines a ≡ table_lines b = cc in
    let own : x ≡ y = numbers_of (line (codes "t") x) (line (codes "t") y) heads in
    let rest = table_same a b tails in cc (own, rest)

-- a table is written on as many lines as it has
pub table_long : (a : List (List ℤ)) → length (table_lines a) ≡ length a
table_long [] = refl
table_long (x ∷ a) = ap suc (table_long a)

-- parts are the same if all that they hold is
pub same_without : (w u : WithoutValue) → w.winner ≡ u.winner → w.choice ≡ u.choice → w.table ≡ u.table → w ≡ u
same_without w u winner choice table =
    ap (λ (x : ℕ). record { winner = x; choice = w.choice; table = w.table }) winner
    ∙ ap (λ (x : List ℕ). record { winner = u.winner; choice = x; table = w.table }) choice
    ∙ ap (λ (x : List (List ℤ)). record { winner = u.winner; choice = u.choice; table = x }) table

-- so are rows
pub same_row : (x y : RowValue) → x.members ≡ y.members → x.first ≡ y.first → x.second ≡ y.second → x.choice ≡ y.choice → x ≡ y
same_row x y members first second choice =
    ap (λ (m : List ℕ). record { members = m; first = x.first; second = x.second; choice = x.choice }) members
    ∙ ap (λ (z : ℤ). record { members = y.members; first = z; second = x.second; choice = x.choice }) first
    ∙ ap (λ (z : ℤ). record { members = y.members; first = y.first; second = z; choice = x.choice }) second
    ∙ ap (λ (m : List ℕ). record { members = y.members; first = y.first; second = y.second; choice = m }) choice

-- and certificates
pub same_cert : (c d : CertValue) → c.den ≡ d.den → c.value ≡ d.value → c.choice ≡ d.choice → c.table ≡ d.table → c.withouts ≡ d.withouts → c.pay ≡ d.pay
    → c.rows ≡ d.rows → c.lowered ≡ d.lowered → c ≡ d
same_cert c d den value choice table withouts pay rows lowered =
    ap (λ (x : ℤ). record {
      den = x;
      value = c.value;
      choice = c.choice;
      table = c.table;
      withouts = c.withouts;
      pay = c.pay;
      rows = c.rows;
      lowered =
          c.lowered;
    }) den
    ∙ ap (λ (x : ℤ). record {
      den = d.den;
      value = x;
      choice = c.choice;
      table = c.table;
      withouts = c.withouts;
      pay = c.pay;
      rows = c.rows;
      lowered =
          c.lowered;
    }) value
    ∙ ap (λ (x : List ℕ). record {
      den = d.den;
      value = d.value;
      choice = x;
      table = c.table;
      withouts = c.withouts;
      pay = c.pay;
      rows = c.rows;
      lowered =
          c.lowered;
    }) choice
    ∙ ap (λ (x : List (List ℤ)). record {
      den = d.den;
      value = d.value;
      choice = d.choice;
      table = x;
      withouts = c.withouts;
      pay = c.pay;
      rows =
          c.rows;
      lowered = c.lowered;
    }) table
    ∙ ap (λ (x : List WithoutValue). record {
      den = d.den;
      value = d.value;
      choice = d.choice;
      table = d.table;
      withouts = x;
      pay = c.pay;
      rows =
          c.rows;
      lowered = c.lowered;
    }) withouts
    ∙ ap (λ (x : List ℤ). record {
      den = d.den;
      value = d.value;
      choice = d.choice;
      table = d.table;
      withouts = d.withouts;
      pay = x;
      rows = c.rows;
      lowered =
          c.lowered;
    }) pay
    ∙ ap (λ (x : List RowValue). record {
      den = d.den;
      value = d.value;
      choice = d.choice;
      table = d.table;
      withouts = d.withouts;
      pay = d.pay;
      rows =
          x;
      lowered = c.lowered;
    }) rows
    ∙ ap (λ (x : List (List ℤ)). record {
      den = d.den;
      value = d.value;
      choice = d.choice;
      table = d.table;
      withouts = d.withouts;
      pay = d.pay;
      rows =
          d.rows;
      lowered = x;
    }) lowered

module _ (b s : ℕ) where
  parts_same : (j : ℕ) (choice : List ℕ) (ws us : List WithoutValue) → AreWithouts b s j choice ws → AreWithouts b s j choice us
      → part_lines ws ≡ part_lines us → ws ≡ us
  parts_same j [] [] [] g h e = refl
  parts_same j [] [] (u ∷ us) g h e = absurd h
  parts_same j [] (w ∷ ws) us g h e = absurd g
  parts_same j (zero ∷ ns) ws us g h e = parts_same (suc j) ns ws us g h e
  parts_same j (suc n ∷ ns) [] us g h e = absurd g
  parts_same j (suc n ∷ ns) (w ∷ ws) [] g h e = absurd h
  parts_same j (suc n ∷ ns) (w ∷ ws) (u ∷ us) g h e =
      let long : length (table_lines w.table) ≡ length (table_lines u.table) = table_long w.table ∙ g.0.table.0 ∙ sym h.0.table.0 ∙ sym (table_long u.table) in
      let choices : choice_line w.choice ≡ choice_line u.choice = cc in
      let behind : table_lines w.table ++ part_lines ws ≡ table_lines u.table ++ part_lines us = cc in
      let parts = cut (table_lines w.table) (table_lines u.table) (part_lines ws) (part_lines us) long behind in
      let winner : w.winner ≡ u.winner = g.0.winner ∙ sym h.0.winner in
      let choice : w.choice ≡ u.choice = numbers_same w.choice u.choice (numbers_of (choice_line w.choice) (choice_line u.choice) choices) in
      let table : w.table ≡ u.table = table_same w.table u.table parts.0 in
      let rest = parts_same (suc j) ns ws us g.1 h.1 parts.1 in
      let own : w ≡ u = same_without w u winner choice table in
      ap (λ (x : WithoutValue). x ∷ ws) own ∙ ap (λ (l : List WithoutValue). u ∷ l) rest

  parts_long : (j : ℕ) (choice : List ℕ) (ws us : List WithoutValue) → AreWithouts b s j choice ws → AreWithouts b s j choice us
      → length (part_lines ws) ≡ length (part_lines us)
  parts_long j [] [] [] g h = refl
  parts_long j [] [] (u ∷ us) g h = absurd h
  parts_long j [] (w ∷ ws) us g h = absurd g
  parts_long j (zero ∷ ns) ws us g h = parts_long (suc j) ns ws us g h
  parts_long j (suc n ∷ ns) [] us g h = absurd g
  parts_long j (suc n ∷ ns) (w ∷ ws) [] g h = absurd h
  parts_long j (suc n ∷ ns) (w ∷ ws) (u ∷ us) g h =
      let a = length-append (table_lines w.table) (part_lines ws) in
      let c = length-append (table_lines u.table) (part_lines us) in
      let r = parts_long (suc j) ns ws us g.1 h.1 in
      omega (arith, a, c, r, table_long w.table, table_long u.table, g.0.table.0, h.0.table.0)

rows_same : (a b : List RowValue) → row_lines a ≡ row_lines b → a ≡ b
rows_same [] [] e = refl
rows_same [] (y ∷ b) e = cc
rows_same (x ∷ a) [] e = cc
rows_same (x ∷ a) (y ∷ b) e =
    let rows : line (codes "row") (as_numbers x.members) ≡ line (codes "row") (as_numbers y.members) = cc in
    let mults : line (codes "mult") (x.first ∷ x.second ∷ []) ≡ line (codes "mult") (y.first ∷ y.second ∷ []) = cc in
    let choices : choice_line x.choice ≡ choice_line y.choice = cc in
    let tails : row_lines a ≡ row_lines b = cc in
    let members : x.members ≡ y.members = numbers_same x.members y.members (numbers_of _ _ rows) in
    let pair : x.first ∷ x.second ∷ [] ≡ y.first ∷ y.second ∷ [] = numbers_of _ _ mults in
    let first : x.first ≡ y.first = cc in
    let second : x.second ≡ y.second = cc in
    let choice : x.choice ≡ y.choice = numbers_same x.choice y.choice (numbers_of _ _ choices) in
    let own : x ≡ y = same_row x y members first second choice in
    ap (λ (r : RowValue). r ∷ a) own ∙ ap (λ (l : List RowValue). y ∷ l) (rows_same a b tails)

rows_long : (a : List RowValue) → length (row_lines a) ≡ 3 * length a
rows_long [] = refl
rows_long (x ∷ a) = omega (arith, rows_long a)

-- the lines after the parts
abbrev last : CertValue → List Line
last c = line (codes "pay") c.pay ∷ line (codes "rows") (pos (length c.rows) ∷ []) ∷
    (row_lines c.rows ++ line (codes "lowered") [] ∷ (table_lines c.lowered ++ line (codes "end") [] ∷ []))

-- what follows the version says it all
one_body : (b s : ℕ) (c d : CertValue) → IsCertificate b s c → IsCertificate b s d → body_lines c ≡ body_lines d → c ≡ d
one_body b s c d g h e =
    let dens : line (codes "den") (c.den ∷ []) ≡ line (codes "den") (d.den ∷ []) = cc in
    let values : line (codes "value") (c.value ∷ []) ≡ line (codes "value") (d.value ∷ []) = cc in
    let choices : choice_line c.choice ≡ choice_line d.choice = cc in
    let behind : ((line (codes "table") [] ∷ table_lines c.table) ++ part_lines c.withouts) ++ last c ≡
    ((line (codes "table") [] ∷ table_lines d.table) ++ part_lines d.withouts) ++ last d = cc in
    let den_list : c.den ∷ [] ≡ d.den ∷ [] = numbers_of _ _ dens in
    let value_list : c.value ∷ [] ≡ d.value ∷ [] = numbers_of _ _ values in
    let den : c.den ≡ d.den = cc in
    let value : c.value ≡ d.value = cc in
    let choice : c.choice ≡ d.choice = numbers_same c.choice d.choice (numbers_of _ _ choices) in
    let others : AreWithouts b s 1 c.choice d.withouts = subst (λ (x : List ℕ). AreWithouts b s 1 x d.withouts) (sym choice) h.withouts in
    let tables_long : length (line (codes "table") [] ∷ table_lines c.table) ≡ length (line (codes "table") [] ∷ table_lines d.table) =
    omega (arith, table_long c.table, table_long d.table, g.table.0, h.table.0) in
    let parts = parts_long b s 1 c.choice c.withouts d.withouts g.withouts others in
    let long : length ((line (codes "table") [] ∷ table_lines c.table) ++ part_lines c.withouts) ≡ length
    ((line (codes "table") [] ∷ table_lines d.table) ++ part_lines d.withouts) =
    length-append (line (codes "table") [] ∷ table_lines c.table) (part_lines c.withouts) ∙ omega (arith, tables_long, parts)
    ∙ sym (length-append (line (codes "table") [] ∷ table_lines d.table) (part_lines d.withouts)) in
    let head = cut _ _ (last c) (last d) long behind in
    let front = cut (line (codes "table") [] ∷ table_lines c.table) (line (codes "table") [] ∷ table_lines d.table) (part_lines c.withouts)
    (part_lines d.withouts) tables_long head.0 in
    let table_rest : table_lines c.table ≡ table_lines d.table = cc (front.0) in
    let table : c.table ≡ d.table = table_same c.table d.table table_rest in
    let withouts : c.withouts ≡ d.withouts = parts_same b s 1 c.choice c.withouts d.withouts g.withouts others front.1 in
    let tail = last_same c d g h head.1 in
    same_cert c d den value choice table withouts tail.0 tail.1 tail.2
  where
    last_same : (c d : CertValue) → IsCertificate b s c → IsCertificate b s d → last c ≡ last d → (c.pay ≡ d.pay) × (c.rows ≡ d.rows) × (c.lowered ≡ d.lowered)
    last_same c d g h e =
        let pays : line (codes "pay") c.pay ≡ line (codes "pay") d.pay = cc in
        let counts : line (codes "rows") (pos (length c.rows) ∷ []) ≡ line (codes "rows") (pos (length d.rows) ∷ []) = cc in
        let behind : row_lines c.rows ++ line (codes "lowered") [] ∷ (table_lines c.lowered ++ line (codes "end") [] ∷ []) ≡ row_lines d.rows
        ++ line (codes "lowered") [] ∷ (table_lines d.lowered ++ line (codes "end") [] ∷ []) = cc in
        let count_list : pos (length c.rows) ∷ [] ≡ pos (length d.rows) ∷ [] = numbers_of _ _ counts in
        let count : length c.rows ≡ length d.rows = cc in
        let rows = cut (row_lines c.rows) (row_lines d.rows) _ _ (omega (arith, rows_long c.rows, rows_long d.rows, count)) behind in
        let tables : table_lines c.lowered ++ line (codes "end") [] ∷ [] ≡ table_lines d.lowered ++ line (codes "end") [] ∷ [] = cc (rows.1) in
        let lowered = cut (table_lines c.lowered) (table_lines d.lowered) _ _ (omega
        (arith, table_long c.lowered, table_long d.lowered, g.lowered.0, h.lowered.0)) tables in
        (numbers_of _ _ pays, rows_same c.rows d.rows rows.0, table_same c.lowered d.lowered lowered.0)

-- for the same bidders and states, certificates with equal lines are equal
pub one_certificate : (b s : ℕ) (c d : CertValue) → IsCertificate b s c → IsCertificate b s d → cert_lines c ≡ cert_lines d → c ≡ d
one_certificate b s c d g h e = one_body b s c d g h (cut _ _ (body_lines c) (body_lines d) (ap length (version_is b s c g ∙ sym (version_is b s d h))) e).1
