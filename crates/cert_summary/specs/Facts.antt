-- What is printed for a certificate, and the certificates that allow it.
use Rattle.std.specs.Prelude.{◌≡◌, ℕ, map}
use Rattle.auction_model.specs.Book.{Book}
use Rattle.cert_grammar.specs.Certificate.{CertValue, WithoutValue}
use Rattle.cert_grammar.specs.CertText.{IsCertificate}
use Rattle.cert_soundness.specs.Tests.{C1, C2, C4, C5, bidders_of, states, vickrey_of}
use Rattle.choices.specs.declared.chooser.Single.{Single}
use Rattle.cert_summary.specs.declared.shown.CertFacts.{CertFacts}

-- a certificate of the book that passes the tests its facts rest on: its sizes, its choice, its parts and its payments
pub record HasFacts (book : Book) (c : CertValue) : Type 0 where
  pub certificate : IsCertificate (bidders_of book) (states book) c
  pub sizes : (place : ℕ) → C1 c place
  pub choice : (place : ℕ) → C2 book c place
  pub parts : (place : ℕ) → C4 book c place
  pub payments : (place : ℕ) → C5 book c place

-- the winner of a part, with its Vickrey price and the choice without it
abbrev pub single_of : Book → CertValue → WithoutValue → Single
single_of book c part = record { winner = part.winner; price = vickrey_of book c part.winner; choice = part.choice }

-- These are the facts of such a certificate: its denominator, value, choice and payments, and for each of its parts, in order,
-- the single winner.
pub record AreFacts (book : Book) (c : CertValue) (facts : CertFacts) : Type 0 where
  pub of : HasFacts book c
  pub den : facts.den ≡ c.den
  pub value : facts.value ≡ c.value
  pub choice : facts.choice ≡ c.choice
  pub pay : facts.pay ≡ c.pay
  pub singles : facts.singles ≡ map (single_of book c) c.withouts
