-- The lines of a placement certificate, and which certificates have a text. They are a certificate's lines with another first
-- line, an order before each choice, and tables of one line with an entry for each set of bidders.
use Rattle.std.specs.Prelude.{◌≡◌, ℕ, zero, suc, ◌^◌, ◌≤◌, List, [], ◌∷◌, ◌++◌, length, codes, ℤ, pos}
use Rattle.wide_num.specs.Range.{InRange}
use Rattle.line_format.specs.Range.{AllInRange}
use Rattle.cert_grammar.specs.Certificate.{RowValue, WithoutValue}
use Rattle.cert_grammar.specs.Lines.{Line}
use Rattle.cert_grammar.specs.CertText.{IsChoice, IsRow, IsTable, as_numbers, choice_line, line, table_lines}
use Rattle.cert_grammar.specs.PlaceCert.{PlaceCertValue}

abbrev pub order_line : List ℕ → Line
order_line order = line (codes "order") (as_numbers order)

-- for each part the winner that is left out, an order, the choice without the winner, and the table that shows this choice
abbrev pub ordered_part_lines : List WithoutValue → List (List ℕ) → List Line
ordered_part_lines [] orders = []
ordered_part_lines (w ∷ ws) [] = []
ordered_part_lines (w ∷ ws) (order ∷ orders) =
    (line (codes "without") (pos w.winner ∷ []) ∷ order_line order ∷ choice_line w.choice ∷ line (codes "table") [] ∷ table_lines w.table)
    ++ ordered_part_lines ws orders

-- for each row its members, its two multipliers, an order, and the choice that determines its bound
abbrev pub ordered_row_lines : List RowValue → List (List ℕ) → List Line
ordered_row_lines [] orders = []
ordered_row_lines (r ∷ rows) [] = []
ordered_row_lines (r ∷ rows) (order ∷ orders) =
    line (codes "row") (as_numbers r.members) ∷ line (codes "mult") (r.first ∷ r.second ∷ []) ∷ order_line order ∷ choice_line r.choice
    ∷ ordered_row_lines rows orders

-- the content of the certificate, in order
abbrev pub place_lines : PlaceCertValue → List Line
place_lines c =
    line (codes "pcert") (pos 1 ∷ []) ∷ line (codes "den") (c.cert.den ∷ []) ∷ line (codes "value") (c.cert.value ∷ []) ∷ order_line c.order
    ∷ choice_line c.cert.choice ∷ (((line (codes "table") [] ∷ table_lines c.cert.table) ++ ordered_part_lines c.cert.withouts c.part_orders)
    ++ line (codes "pay") c.cert.pay ∷ line (codes "rows") (pos (length c.cert.rows) ∷ []) ∷ (ordered_row_lines c.cert.rows c.row_orders
    ++ line (codes "lowered") [] ∷ (table_lines c.cert.lowered ++ line (codes "end") [] ∷ [])))

-- one line, with an entry for each set of that many bidders
abbrev pub HasSets : ℕ → List (List ℤ) → Type 0
HasSets bidders table = IsTable 0 (2 ^ bidders) table

-- a part without bidder j, and its order
pub record IsOrderedWithout (bidders j : ℕ) (w : WithoutValue) (listed : List ℕ) : Type 0 where
  pub winner : w.winner ≡ j
  pub order : IsChoice bidders listed
  pub choice : IsChoice bidders w.choice
  pub table : HasSets bidders w.table

-- a part with an order for each bidder from j on whose number is not 0
abbrev pub AreOrderedWithouts : ℕ → ℕ → List ℕ → List WithoutValue → List (List ℕ) → Type 0
AreOrderedWithouts bidders j [] [] [] = Unit {0}
AreOrderedWithouts bidders j [] [] (order ∷ orders) = ⊥
AreOrderedWithouts bidders j [] (w ∷ ws) orders = ⊥
AreOrderedWithouts bidders j (zero ∷ ns) ws orders = AreOrderedWithouts bidders (suc j) ns ws orders
AreOrderedWithouts bidders j (suc n ∷ ns) [] orders = ⊥
AreOrderedWithouts bidders j (suc n ∷ ns) (w ∷ ws) [] = ⊥
AreOrderedWithouts bidders j (suc n ∷ ns) (w ∷ ws) (order ∷ orders) = IsOrderedWithout bidders j w order
    × AreOrderedWithouts bidders (suc j) ns ws orders

-- an order for each row
abbrev pub AreOrderedRows : ℕ → List RowValue → List (List ℕ) → Type 0
AreOrderedRows bidders [] [] = Unit {0}
AreOrderedRows bidders [] (order ∷ orders) = ⊥
AreOrderedRows bidders (r ∷ rows) [] = ⊥
AreOrderedRows bidders (r ∷ rows) (order ∷ orders) = IsRow bidders r × IsChoice bidders order
    × AreOrderedRows bidders rows orders

-- What the type of a placement certificate keeps, for that many bidders. An order has one number of at most 65,535 for each bidder.
pub record IsPlaceCertificate (bidders : ℕ) (c : PlaceCertValue) : Type 0 where
  pub den : InRange c.cert.den
  pub value : InRange c.cert.value
  pub order : IsChoice bidders c.order
  pub choice : IsChoice bidders c.cert.choice
  pub table : HasSets bidders c.cert.table
  pub withouts : AreOrderedWithouts bidders 1 c.cert.choice c.cert.withouts c.part_orders
  pub pay : (length c.cert.pay ≡ bidders) × AllInRange c.cert.pay
  pub few : length c.cert.rows ≤ 10
  pub rows : AreOrderedRows bidders c.cert.rows c.row_orders
  pub lowered : HasSets bidders c.cert.lowered
