-- What bytes say of a certificate is one thing, and its text states it.
use Rattle.std.proofs.Common.{◌≡◌, ℕ, ◌<◌, ◌^◌, List, ap}
use Rattle.line_format.specs.LineText.{Said, stated, faulty, beyond}
use Rattle.cert_grammar.specs.Certificate.{CertValue}
use Rattle.cert_grammar.specs.Lines.{Line}
use Rattle.cert_grammar.specs.CertText.{IsCertificate, cert_lines}
use Rattle.cert_grammar.specs.Says.{cert_text, CertSays}
use Rattle.cert_grammar.proofs.CertReads.{one_cert}
use Rattle.cert_grammar.proofs.OneCertificate.{one_certificate}
use Rattle.cert_grammar.proofs.Ranges.{text_states}

-- The answer about lines that an answer about a certificate is.
abbrev lines_said : Said CertValue ℕ → Said (List Line) ℕ
lines_said (stated c) = stated (cert_lines c)
lines_said (faulty place) = faulty place
lines_said (beyond place) = beyond place

module _ (b s : ℕ) (bytes : List ℕ) where
  says_one : (x y : Said CertValue ℕ) → CertSays b s bytes x → CertSays b s bytes y → lines_said x ≡ lines_said y
  says_one (stated c) (stated d) h g = one_cert b s bytes (stated (cert_lines c)) (stated (cert_lines d)) h.1 g.1
  says_one (stated c) (faulty q) h g = one_cert b s bytes (stated (cert_lines c)) (faulty q) h.1 g
  says_one (stated c) (beyond q) h g = one_cert b s bytes (stated (cert_lines c)) (beyond q) h.1 g
  says_one (faulty p) (stated d) h g = one_cert b s bytes (faulty p) (stated (cert_lines d)) h g.1
  says_one (faulty p) (faulty q) h g = one_cert b s bytes (faulty p) (faulty q) h g
  says_one (faulty p) (beyond q) h g = one_cert b s bytes (faulty p) (beyond q) h g
  says_one (beyond p) (stated d) h g = one_cert b s bytes (beyond p) (stated (cert_lines d)) h g.1
  says_one (beyond p) (faulty q) h g = one_cert b s bytes (beyond p) (faulty q) h g
  says_one (beyond p) (beyond q) h g = one_cert b s bytes (beyond p) (beyond q) h g

  certificates : (c d : CertValue) → IsCertificate b s c → IsCertificate b s d → lines_said (stated c) ≡ lines_said (stated d) → c ≡ d
  certificates c d h g e = one_certificate b s c d h g cc

  from_lines : (x y : Said CertValue ℕ) → CertSays b s bytes x → CertSays b s bytes y → lines_said x ≡ lines_said y → x ≡ y
  from_lines (stated c) (stated d) h g e = ap stated (certificates c d h.0 g.0 e)
  from_lines (stated c) (faulty q) h g e = cc
  from_lines (stated c) (beyond q) h g e = cc
  from_lines (faulty p) (stated d) h g e = cc
  from_lines (faulty p) (faulty q) h g e = cc
  from_lines (faulty p) (beyond q) h g e = cc
  from_lines (beyond p) (stated d) h g e = cc
  from_lines (beyond p) (faulty q) h g e = cc
  from_lines (beyond p) (beyond q) h g e = cc

  -- of a certificate, bytes say at most one thing
  pub one_saying : (x y : Said CertValue ℕ) → CertSays b s bytes x → CertSays b s bytes y → x ≡ y
  one_saying x y h g = from_lines x y h g (says_one x y h g)

-- for fewer than 2 ^ 100 bidders, the text of a certificate states it
pub text_says : (b s : ℕ) (c : CertValue) → b < 2 ^ 100 → IsCertificate b s c → CertSays b s (cert_text c) (stated c)
text_says b s c small h = (h, text_states b s small c h)
