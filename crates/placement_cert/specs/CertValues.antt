-- Placement certificates of the program as values, and why bytes are none.
use Rattle.std.specs.Prelude.{ℕ, List}
use Rattle.line_format.specs.LineText.{beyond, faulty}
use Rattle.cert_text.specs.declared.stop.CertStop.{CertStop}
use Rattle.cert_text.specs.declared.stop.CertStop.TheVariants.{Form, Range, Memory}
use Rattle.cert_grammar.specs.PlaceCert.{PlaceCertValue}
use Rattle.placement_cert.specs.PlaceSays.{PlaceCertSays}
use Rattle.placement_cert.specs.Parts.{place_cert_from}
use Rattle.placement_cert.specs.declared.certificate.PlaceCertificate.{PlaceCertificate}

abbrev pub place_cert_value : PlaceCertificate → PlaceCertValue
place_cert_value c = place_cert_from c.den c.value c.choice c.order c.table c.withouts c.pay c.rows c.lowered

-- what the bytes say, for that many bidders; out of memory says nothing about
-- them
abbrev pub PlaceStopsAt : ℕ → List ℕ → CertStop → Type 0
PlaceStopsAt bidders bytes (Form place) = PlaceCertSays bidders bytes (faulty place)
PlaceStopsAt bidders bytes (Range place) = PlaceCertSays bidders bytes (beyond place)
PlaceStopsAt bidders bytes Memory = Unit {0}
