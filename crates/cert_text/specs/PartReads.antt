-- Parts that are read one after the other.
use Rattle.std.specs.Prelude.{◌≡◌, ℕ, suc, List, [], ◌∷◌, ◌++◌, map, pos, codes}
use Rattle.cert_grammar.specs.Certificate.{WithoutValue, RowValue}
use Rattle.cert_grammar.specs.Lines.{Line, Kind, kind, these, members, signed, chosen, part_plan, unless_zero}
use Rattle.cert_grammar.specs.CertText.{line, choice_line, table_lines, part_lines, as_numbers, AreWithouts}
use Rattle.cert_text.specs.declared.certificate.WithoutPart.{WithoutPart}
use Rattle.cert_text.specs.Parts.{without_value}
use Rattle.cert_text.specs.Readers.{Leads}

abbrev pub without_kind : ℕ → Kind
without_kind j = kind (codes "without") (these (pos j ∷ []))

abbrev pub without_line : ℕ → Line
without_line j = line (codes "without") (pos j ∷ [])

-- the lines of one part
abbrev pub own_lines : WithoutValue → List Line
own_lines w = without_line w.winner ∷ choice_line w.choice ∷ line (codes "table") [] ∷ table_lines w.table

-- the lines of one row
abbrev pub own_row : RowValue → List Line
own_row r = line (codes "row") (as_numbers r.members) ∷ line (codes "mult") (r.first ∷ r.second ∷ []) ∷ choice_line r.choice ∷ []

abbrev pub row_plan : ℕ → List Kind
row_plan bidders = kind (codes "row") (members bidders) ∷ kind (codes "mult") (signed 2) ∷ kind (codes "choice") (chosen bidders) ∷ []

-- The part of bidder j is read, if its number isn't 0, and follows the parts that were there.
pub record AddsPart (bytes : List ℕ) (place bidders states j number : ℕ) (old new : List WithoutPart) (next : ℕ) : Type 0 where
  pub part : List WithoutValue
  pub added : map without_value new ≡ map without_value old ++ part
  pub leads : Leads bytes place (unless_zero (pos number) (part_plan bidders states j)) next [] (part_lines part)
  pub are : (ns : List ℕ) (rest : List WithoutValue) → AreWithouts bidders states (suc j) ns rest
      → AreWithouts bidders states j (number ∷ ns) (part ++ rest)
