-- Lines of a placement certificate that are written together.
use Rattle.std.specs.Prelude.{List, [], ◌∷◌, codes, pos}
use Rattle.std.specs.List.{AllByRecursion}
use Rattle.cert_grammar.specs.CertText.{choice_line, line}
use Rattle.cert_grammar.specs.Lines.{Line}
use Rattle.cert_text.specs.Written.{IsTableInRange}
use Rattle.wide_num.specs.Range.{InRange}
use Rattle.placement_cert.specs.PlaceText.{order_line}
use Rattle.placement_cert.specs.declared.certificate.PlaceCertificate.{PlaceCertificate}
use Rattle.placement_cert.specs.declared.certificate.PlaceRow.{PlaceRow}
use Rattle.placement_cert.specs.declared.certificate.PlaceWithout.{PlaceWithout}

-- the version, the denominator, the value and the head's choice
abbrev pub lines_of_head : PlaceCertificate → List Line
lines_of_head c =
    line (codes "pcert") (pos 1 ∷ []) ∷ line (codes "den") (c.den ∷ []) ∷ line (codes "value") (c.value ∷ []) ∷ order_line c.order ∷ choice_line c.choice ∷ []

abbrev pub ArePartsInRange : List PlaceWithout → Type 0
ArePartsInRange parts = AllByRecursion (λ w. IsTableInRange w.table) parts

abbrev pub IsRowInRange : PlaceRow → Type 0
IsRowInRange r = InRange r.first × InRange r.second
