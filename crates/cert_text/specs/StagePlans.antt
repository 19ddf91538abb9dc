-- The stages of a certificate's text: which lines are to come in each, and which were read.
use Rattle.std.specs.Prelude.{ℕ, ℤ, pos, List, [], ◌∷◌, ◌++◌, length, codes}
use Rattle.cert_grammar.specs.Certificate.{WithoutValue, RowValue}
use Rattle.cert_grammar.specs.Lines.{Line, Kind, kind, these, signed, headed, counted, table_plan}
use Rattle.cert_grammar.specs.CertText.{line, choice_line, table_lines, part_lines, row_lines}

abbrev pub opening_plan : List Kind
opening_plan = kind (codes "den") (signed 1) ∷ kind (codes "value") (signed 1) ∷ []

abbrev pub opening_lines : ℤ → ℤ → List Line
opening_lines den value = line (codes "den") (den ∷ []) ∷ line (codes "value") (value ∷ []) ∷ []

abbrev pub winning_kind : ℕ → ℕ → Kind
winning_kind bidders states = kind (codes "choice") (headed bidders states)

abbrev pub winning_lines : List ℕ → List (List ℤ) → List WithoutValue → List Line
winning_lines choice table withouts = choice_line choice ∷ ((line (codes "table") [] ∷ table_lines table) ++ part_lines withouts)

abbrev pub payment_plan : ℕ → List Kind
payment_plan bidders = kind (codes "pay") (signed bidders) ∷ kind (codes "rows") (counted bidders) ∷ []

abbrev pub payment_lines : List ℤ → List RowValue → List Line
payment_lines pay rows = line (codes "pay") pay ∷ line (codes "rows") (pos (length rows) ∷ []) ∷ row_lines rows

abbrev pub closing_plan : ℕ → ℕ → List Kind
closing_plan bidders states = kind (codes "lowered") (these []) ∷ (table_plan bidders states ++ kind (codes "end") (these []) ∷ [])

abbrev pub closing_lines : List (List ℤ) → List Line
closing_lines table = line (codes "lowered") [] ∷ (table_lines table ++ line (codes "end") [] ∷ [])
