-- The reading of bytes as a certificate.
use Rattle.std.specs.Prelude.{ℕ, List}
use Rattle.line_format.specs.LineText.{text_of, IsTextOf, FaultAt, Exceeds, Said, stated, faulty, beyond}
use Rattle.cert_grammar.specs.Certificate.{CertValue}
use Rattle.cert_grammar.specs.CertText.{IsCertificate, cert_lines}
use Rattle.cert_grammar.specs.Lines.{IsCertText, lines}

-- the one text of a certificate
abbrev pub cert_text : CertValue → List ℕ
cert_text c = text_of (lines (cert_lines c))

-- For that many bidders and states: the certificate that the bytes are the text of; or the place of the first faulty line,
-- or the place of the first line with a number out of range, if the lines up to it are of right form.
abbrev pub CertSays : ℕ → ℕ → List ℕ → Said CertValue ℕ → Type 0
CertSays bidders states bytes (stated c) = IsCertificate bidders states c
    × IsTextOf (IsCertText bidders states) lines bytes (cert_lines c)
CertSays bidders states bytes (faulty place) = FaultAt (IsCertText bidders states) lines bytes place
CertSays bidders states bytes (beyond place) = Exceeds (IsCertText bidders states) lines bytes place
