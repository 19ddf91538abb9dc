-- A placement certificate as a value: a certificate whose tables have one line, with an entry for each set of bidders, and an
-- order of all bidders for each of its choices.
use Rattle.std.specs.Prelude.{ℕ, ◌-◌, ◌==◌, List, [], ◌∷◌, slice_index_or, if◌then◌else◌}
use Rattle.cert_grammar.specs.Certificate.{CertValue, WithoutValue}

-- The order of the certificate's choice, and the orders of the choices of its parts and of its rows, in their order.
pub record PlaceCertValue : Type 0 where
  pub cert : CertValue
  pub order : List ℕ
  pub part_orders : List (List ℕ)
  pub row_orders : List (List ℕ)

-- the order of the part without bidder j
abbrev pub order_without : List WithoutValue → List (List ℕ) → ℕ → List ℕ
order_without [] orders j = []
order_without (w ∷ ws) [] j = []
order_without (w ∷ ws) (order ∷ orders) j = if w.winner == j then order else order_without ws orders j

-- the order of row r, counted from 1
abbrev pub order_in_row : List (List ℕ) → ℕ → List ℕ
order_in_row orders r = slice_index_or orders (r - 1) []
