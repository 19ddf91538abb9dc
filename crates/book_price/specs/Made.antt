-- The certificate of a book's prices as a value, from what pricing found.
use Rattle.std.specs.Prelude.{ℕ, List, [], ◌∷◌, length, map, ℤ}
use Rattle.choices.specs.declared.chooser.Single.{Single}
use Rattle.cert_grammar.specs.Certificate.{CertValue, RowValue, WithoutValue}
use Rattle.core_price.specs.declared.priced.PricedRow.{PricedRow}
use Rattle.core_laws.specs.Winners.{for_bidders, has_member, members_of}

-- a kept row. Its bits are winners in order, its members the bidders, rising
abbrev pub row_from : List ℕ → PricedRow → RowValue
row_from z r = record { members = members_of (has_member z r.row.members) (length z); first = r.first; second = r.second; choice = r.choice }

-- the part of each winner, with the table without it
abbrev pub parts_from : List Single → List (List (List ℤ)) → List WithoutValue
parts_from [] tables = []
parts_from (s ∷ singles) [] = []
parts_from (s ∷ singles) (t ∷ tables) = record { winner = s.winner; choice = s.choice; table = t } ∷ parts_from singles tables

-- z is the winning choice, `at` has a payment for each winner
abbrev pub cert_made : List ℕ → ℤ → List (List ℤ) → List Single → List (List (List ℤ)) → ℤ → List ℤ → List PricedRow
    → List (List ℤ) → CertValue
cert_made z value table singles tables den at rows lowered =
    record { den = den; value = value; choice = z; table = table; withouts = parts_from singles tables; pay = for_bidders z at; rows = map (row_from z) rows; lowered = lowered }
