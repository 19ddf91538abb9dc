-- The value of a placement certificate of the program, from its fields.
use Rattle.std.specs.Prelude.{ℕ, ℤ, List, map}
use Rattle.cert_grammar.specs.Certificate.{RowValue, WithoutValue}
use Rattle.cert_grammar.specs.PlaceCert.{PlaceCertValue}
use Rattle.placement_cert.specs.PlaceText.{AreOrderedRows, AreOrderedWithouts}
use Rattle.placement_cert.specs.declared.certificate.PlaceRow.{PlaceRow}
use Rattle.placement_cert.specs.declared.certificate.PlaceWithout.{PlaceWithout}

abbrev pub part_value : PlaceWithout → WithoutValue
part_value w = record { winner = w.winner; choice = w.choice; table = w.table }

abbrev pub part_order : PlaceWithout → List ℕ
part_order w = w.order

abbrev pub row_value : PlaceRow → RowValue
row_value r = record { members = r.members; first = r.first; second = r.second; choice = r.choice }

abbrev pub row_order : PlaceRow → List ℕ
row_order r = r.order

abbrev pub place_cert_from : ℤ → ℤ → List ℕ → List ℕ → List (List ℤ) → List PlaceWithout → List ℤ → List PlaceRow
    → List (List ℤ) → PlaceCertValue
place_cert_from den value choice order table withouts pay rows lowered = record {
  cert = record { den = den; value = value; choice = choice; table = table; withouts = map part_value withouts; pay = pay; rows = map row_value rows; lowered = lowered };
  order = order;
  part_orders = map part_order withouts;
  row_orders = map row_order rows;
}

-- the parts are a choice's, from bidder j on
abbrev pub AreParts : ℕ → ℕ → List ℕ → List PlaceWithout → Type 0
AreParts bidders j choice parts = AreOrderedWithouts bidders j choice (map part_value parts) (map part_order parts)

-- the rows are such as a certificate for that many bidders keeps
abbrev pub AreRows : ℕ → List PlaceRow → Type 0
AreRows bidders rows = AreOrderedRows bidders (map row_value rows) (map row_order rows)
