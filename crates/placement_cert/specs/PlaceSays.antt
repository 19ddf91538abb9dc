-- The reading of bytes as a placement certificate.
use Rattle.std.specs.Prelude.{ℕ, List}
use Rattle.line_format.specs.LineText.{Exceeds, FaultAt, IsTextOf, Said, beyond, faulty, stated, text_of}
use Rattle.cert_grammar.specs.Lines.{IsPlacesText, lines}
use Rattle.cert_grammar.specs.PlaceCert.{PlaceCertValue}
use Rattle.placement_cert.specs.PlaceText.{IsPlaceCertificate, place_lines}

-- the one text of a placement certificate
abbrev pub place_text : PlaceCertValue → List ℕ
place_text c = text_of (lines (place_lines c))

-- For that many bidders: the certificate that the bytes are the text of; or the place of the first faulty line, or the place of
-- the first line with a number out of range, if the lines up to it are of right form.
abbrev pub PlaceCertSays : ℕ → List ℕ → Said PlaceCertValue ℕ → Type 0
PlaceCertSays bidders bytes (stated c) = IsPlaceCertificate bidders c
    × IsTextOf (IsPlacesText bidders) lines bytes (place_lines c)
PlaceCertSays bidders bytes (faulty place) = FaultAt (IsPlacesText bidders) lines bytes place
PlaceCertSays bidders bytes (beyond place) = Exceeds (IsPlacesText bidders) lines bytes place
