-- The value of a certificate of the program, from its fields.
use Rattle.std.specs.Prelude.{ℕ, ℤ, List, map}
use Rattle.cert_grammar.specs.Certificate.{CertValue, RowValue, WithoutValue}
use Rattle.cert_text.specs.declared.certificate.CertRow.{CertRow}
use Rattle.cert_text.specs.declared.certificate.WithoutPart.{WithoutPart}

abbrev pub without_value : WithoutPart → WithoutValue
without_value w = record { winner = w.winner; choice = w.choice; table = w.table }

abbrev pub row_value : CertRow → RowValue
row_value r = record { members = r.members; first = r.first; second = r.second; choice = r.choice }

abbrev pub cert_from : ℤ → ℤ → List ℕ → List (List ℤ) → List WithoutPart → List ℤ → List CertRow → List (List ℤ)
    → CertValue
cert_from den value choice table withouts pay rows lowered =
    record { den = den; value = value; choice = choice; table = table; withouts = map without_value withouts; pay = pay; rows = map row_value rows; lowered = lowered }
