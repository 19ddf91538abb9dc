-- Texts that can't become a certificate, whatever follows.
use Rattle.std.specs.Prelude.{ℕ, List, ◌++◌}
use Rattle.line_format.specs.LineText.{beyond, faulty}
use Rattle.cert_grammar.specs.Says.{CertSays}
use Rattle.cert_stream.specs.declared.stop.TextStop.{TextStop}
use Rattle.cert_stream.specs.declared.stop.TextStop.TheVariants.{Form, Range}

-- the reading of bytes that aren't a certificate for that many bidders
-- and states
abbrev pub SaysStop : ℕ → ℕ → List ℕ → TextStop → Type 0
SaysStop bidders states bytes (Form place) = CertSays bidders states bytes (faulty place)
SaysStop bidders states bytes (Range place) = CertSays bidders states bytes (beyond place)

-- each text that begins with these bytes says so
abbrev pub StopsFor : ℕ → ℕ → List ℕ → TextStop → Type 0
StopsFor bidders states bytes stop = (more : List ℕ) → SaysStop bidders states (bytes ++ more) stop
