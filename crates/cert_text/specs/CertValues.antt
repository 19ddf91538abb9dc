-- Certificates of the program as values.
use Rattle.std.specs.Prelude.{◌≡◌, ℕ, length}
use Rattle.cert_grammar.specs.Certificate.{CertValue}
use Rattle.choices.specs.Lines.{width_of}
use Rattle.cert_text.specs.declared.certificate.Certificate.{Certificate}
use Rattle.cert_text.specs.Parts.{cert_from}

abbrev pub cert_value : Certificate → CertValue
cert_value c = cert_from c.den c.value c.choice c.table c.withouts c.pay c.rows c.lowered

-- it is for that many bidders and states
pub record IsFor (bidders states : ℕ) (c : Certificate) : Type 0 where
  pub bidders_are : length c.choice ≡ bidders
  pub states_are : width_of c.table ≡ states
