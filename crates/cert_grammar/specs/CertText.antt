-- The lines of a certificate, and which certificates have a text. Each line is a word and numbers.
use Rattle.std.specs.Prelude.{◌≡◌, ℕ, zero, suc, ◌≤◌, ◌<◌, List, [], ◌∷◌, ◌++◌, length, codes, slice_index_or, ℤ, pos}
pub use Rattle.wide_num.specs.Range.{InRange}
pub use Rattle.line_format.specs.Range.{AllInRange}
use Rattle.cert_grammar.specs.Certificate.{CertValue, WithoutValue, RowValue}
use Rattle.cert_grammar.specs.Lines.{Line, version_lines}

-- a line of this word and these numbers
abbrev pub line : List ℕ → List ℤ → Line
line word numbers = record { word = word; numbers = numbers }

-- natural numbers as the numbers of a line
abbrev pub as_numbers : List ℕ → List ℤ
as_numbers [] = []
as_numbers (n ∷ ns) = pos n ∷ as_numbers ns

abbrev pub choice_line : List ℕ → Line
choice_line choice = line (codes "choice") (as_numbers choice)

-- `t` and the numbers of each line
abbrev pub table_lines : List (List ℤ) → List Line
table_lines [] = []
table_lines (t ∷ table) = line (codes "t") t ∷ table_lines table

-- for each part the winner that is left out, the choice without it, and the table that shows this choice
abbrev pub part_lines : List WithoutValue → List Line
part_lines [] = []
part_lines (w ∷ ws) = (line (codes "without") (pos w.winner ∷ []) ∷ choice_line w.choice ∷ line (codes "table") [] ∷ table_lines w.table) ++ part_lines ws

-- for each row its members, its two multipliers, and the choice that determines its bound
abbrev pub row_lines : List RowValue → List Line
row_lines [] = []
row_lines (r ∷ rows) = line (codes "row") (as_numbers r.members) ∷ line (codes "mult") (r.first ∷ r.second ∷ []) ∷ choice_line r.choice ∷ row_lines rows

-- what follows the version: the content of the certificate, in order
abbrev pub body_lines : CertValue → List Line
body_lines c =
    line (codes "den") (c.den ∷ []) ∷ line (codes "value") (c.value ∷ []) ∷ choice_line c.choice
    ∷ (((line (codes "table") [] ∷ table_lines c.table) ++ part_lines c.withouts)
    ++ line (codes "pay") c.pay ∷ line (codes "rows") (pos (length c.rows) ∷ [])
    ∷ (row_lines c.rows ++ line (codes "lowered") [] ∷ (table_lines c.lowered ++ line (codes "end") [] ∷ [])))

-- The version, then the content of the certificate. It is for as many bidders as its choice has, and for as many states as its
-- table.
abbrev pub cert_lines : CertValue → List Line
cert_lines c = version_lines (length c.choice) (length (slice_index_or c.table 0 [])) ++ body_lines c

-- none is greater than this
abbrev pub AtMost : ℕ → List ℕ → Type 0
AtMost most [] = Unit {0}
AtMost most (n ∷ ns) = (n ≤ most) × AtMost most ns

-- one number of at most 65,535 for each bidder
abbrev pub IsChoice : ℕ → List ℕ → Type 0
IsChoice bidders choice = (length choice ≡ bidders) × AtMost 65535 choice

abbrev pub AreTableLines : ℕ → List (List ℤ) → Type 0
AreTableLines states [] = Unit {0}
AreTableLines states (t ∷ table) = (length t ≡ states) × AllInRange t × AreTableLines states table

-- a line for each bidder and one more, each with a number for each state
abbrev pub IsTable : ℕ → ℕ → List (List ℤ) → Type 0
IsTable bidders states table = (length table ≡ suc bidders) × AreTableLines states table

-- a part without bidder j
pub record IsWithout (bidders states j : ℕ) (w : WithoutValue) : Type 0 where
  pub winner : w.winner ≡ j
  pub choice : IsChoice bidders w.choice
  pub table : IsTable bidders states w.table

-- a part for each bidder from j on whose number is not 0
abbrev pub AreWithouts : ℕ → ℕ → ℕ → List ℕ → List WithoutValue → Type 0
AreWithouts bidders states j [] [] = Unit {0}
AreWithouts bidders states j [] (w ∷ ws) = ⊥
AreWithouts bidders states j (zero ∷ ns) ws = AreWithouts bidders states (suc j) ns ws
AreWithouts bidders states j (suc n ∷ ns) [] = ⊥
AreWithouts bidders states j (suc n ∷ ns) (w ∷ ws) = IsWithout bidders states j w
    × AreWithouts bidders states (suc j) ns ws

-- rising, each above the one before and at most the number of bidders
abbrev pub AreMembers : ℕ → ℕ → List ℕ → Type 0
AreMembers bidders before [] = Unit {0}
AreMembers bidders before (j ∷ js) = (before < j) × (j ≤ bidders) × AreMembers bidders j js

-- at least one member, and both multipliers in range
pub record IsRow (bidders : ℕ) (row : RowValue) : Type 0 where
  pub some : 0 < length row.members
  pub members : AreMembers bidders 0 row.members
  pub choice : IsChoice bidders row.choice
  pub range : InRange row.first × InRange row.second

abbrev pub AreRows : ℕ → List RowValue → Type 0
AreRows bidders [] = Unit {0}
AreRows bidders (r ∷ rows) = IsRow bidders r × AreRows bidders rows

-- what the type of a certificate keeps, for that many bidders and states
pub record IsCertificate (bidders states : ℕ) (c : CertValue) : Type 0 where
  pub den : InRange c.den
  pub value : InRange c.value
  pub choice : IsChoice bidders c.choice
  pub table : IsTable bidders states c.table
  pub withouts : AreWithouts bidders states 1 c.choice c.withouts
  pub pay : (length c.pay ≡ bidders) × AllInRange c.pay
  pub few : length c.rows ≤ 10
  pub rows : AreRows bidders c.rows
  pub lowered : IsTable bidders states c.lowered
