-- Why bytes are not read as a certificate.
use Rattle.std.specs.Prelude.{ℕ, List}
use Rattle.line_format.specs.LineText.{Exceeds, FaultAt, beyond, faulty}
use Rattle.cert_grammar.specs.Plan.{Follows}
use Rattle.cert_grammar.specs.Lines.{Kind, Fits, after, lines}
use Rattle.cert_grammar.specs.Says.{CertSays}
use Rattle.cert_text.specs.declared.stop.CertStop.{CertStop}
use Rattle.cert_text.specs.declared.stop.CertStop.TheVariants.{Form, Range, Memory}

-- what the bytes say, for that many bidders and states; out of memory says nothing about
-- them
abbrev pub StopsAt : ℕ → ℕ → List ℕ → CertStop → Type 0
StopsAt bidders states bytes (Form place) = CertSays bidders states bytes (faulty place)
StopsAt bidders states bytes (Range place) = CertSays bidders states bytes (beyond place)
StopsAt bidders states bytes Memory = Unit {0}

-- what the bytes say as a text by a plan
abbrev pub StopsBy : List Kind → List ℕ → CertStop → Type 0
StopsBy whole bytes (Form place) = FaultAt (Follows Fits after whole) lines bytes place
StopsBy whole bytes (Range place) = Exceeds (Follows Fits after whole) lines bytes place
StopsBy whole bytes Memory = Unit {0}
