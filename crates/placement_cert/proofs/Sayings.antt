-- What bytes say of a placement certificate is one thing, and its text states it.
use Rattle.std.proofs.Common.{◌≡◌, ℕ, ◌<◌, ◌^◌, List, ap}
use Rattle.line_format.specs.LineText.{Said, beyond, faulty, stated}
use Rattle.cert_grammar.specs.Lines.{Line}
use Rattle.cert_grammar.proofs.CertReads.{one_places}
use Rattle.cert_grammar.specs.PlaceCert.{PlaceCertValue}
use Rattle.placement_cert.specs.PlaceText.{IsPlaceCertificate, place_lines}
use Rattle.placement_cert.specs.PlaceSays.{place_text, PlaceCertSays}
use Rattle.placement_cert.proofs.OneCertificate.{one_place_certificate}
use Rattle.placement_cert.proofs.Ranges.{places_state}

-- The answer about lines that an answer about a certificate is.
abbrev lines_said : Said PlaceCertValue ℕ → Said (List Line) ℕ
lines_said (stated c) = stated (place_lines c)
lines_said (faulty place) = faulty place
lines_said (beyond place) = beyond place

module _ (b : ℕ) (bytes : List ℕ) where
  says_one : (x y : Said PlaceCertValue ℕ) → PlaceCertSays b bytes x → PlaceCertSays b bytes y → lines_said x ≡ lines_said y
  says_one (stated c) (stated d) h g = one_places b bytes (stated (place_lines c)) (stated (place_lines d)) h.1 g.1
  says_one (stated c) (faulty q) h g = one_places b bytes (stated (place_lines c)) (faulty q) h.1 g
  says_one (stated c) (beyond q) h g = one_places b bytes (stated (place_lines c)) (beyond q) h.1 g
  says_one (faulty p) (stated d) h g = one_places b bytes (faulty p) (stated (place_lines d)) h g.1
  says_one (faulty p) (faulty q) h g = one_places b bytes (faulty p) (faulty q) h g
  says_one (faulty p) (beyond q) h g = one_places b bytes (faulty p) (beyond q) h g
  says_one (beyond p) (stated d) h g = one_places b bytes (beyond p) (stated (place_lines d)) h g.1
  says_one (beyond p) (faulty q) h g = one_places b bytes (beyond p) (faulty q) h g
  says_one (beyond p) (beyond q) h g = one_places b bytes (beyond p) (beyond q) h g

  certificates : (c d : PlaceCertValue) → IsPlaceCertificate b c → IsPlaceCertificate b d → lines_said (stated c) ≡ lines_said (stated d) → c ≡ d
  certificates c d h g e = one_place_certificate b c d h g cc

  from_lines : (x y : Said PlaceCertValue ℕ) → PlaceCertSays b bytes x → PlaceCertSays b bytes y → lines_said x ≡ lines_said y → x ≡ y
  from_lines (stated c) (stated d) h g e = ap stated (certificates c d h.0 g.0 e)
  from_lines (stated c) (faulty q) h g e = cc
  from_lines (stated c) (beyond q) h g e = cc
  from_lines (faulty p) (stated d) h g e = cc
  from_lines (faulty p) (faulty q) h g e = cc
  from_lines (faulty p) (beyond q) h g e = cc
  from_lines (beyond p) (stated d) h g e = cc
  from_lines (beyond p) (faulty q) h g e = cc
  from_lines (beyond p) (beyond q) h g e = cc

  -- bytes say one thing of a placement certificate
  pub one_saying : (x y : Said PlaceCertValue ℕ) → PlaceCertSays b bytes x → PlaceCertSays b bytes y → x ≡ y
  one_saying x y h g = from_lines x y h g (says_one x y h g)

-- the text of a placement certificate states it
pub text_says : (b : ℕ) (c : PlaceCertValue) → b < 2 ^ 100 → IsPlaceCertificate b c → PlaceCertSays b (place_text c) (stated c)
text_says b c small h = (h, places_state b small c h)
