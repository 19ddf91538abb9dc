-- The parts of a certificate of the program.
use Rattle.std.specs.Prelude.{◌≡◌, ◌<◌, ◌≤◌, IsTrue, length}
use Rattle.auction_model.specs.Market.{uses}
use Rattle.cert_grammar.specs.Certificate.{part_of}
use Rattle.cert_text.specs.declared.certificate.Certificate.{Certificate}
use Rattle.cert_text.specs.declared.certificate.WithoutPart.{WithoutPart}
use Rattle.cert_text.specs.CertValues.{cert_value}
use Rattle.cert_text.specs.Parts.{without_value}

-- a part of it, without a winner of its choice
pub record IsPartOf (c : Certificate) (part : WithoutPart) : Type 0 where
  pub bidder : (0 < part.winner) × (part.winner ≤ length c.choice)
  pub wins : IsTrue (uses c.choice part.winner)
  pub found : part_of (cert_value c).withouts part.winner ≡ without_value part
