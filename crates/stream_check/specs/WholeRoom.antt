-- What the room has of a certificate that has come whole.
use Rattle.std.specs.Prelude.{◌≡◌, ℕ, ◌≤◌, ◌<◌, IsTrue, List, [], ◌∷◌, ℤ}
use Rattle.auction_model.specs.Book.{Book}
use Rattle.auction_model.specs.Market.{uses}
use Rattle.cert_summary.specs.Facts.{HasFacts}
use Rattle.cert_grammar.specs.Certificate.{CertValue, part_of}
use Rattle.cert_grammar.specs.CertText.{as_numbers}
use Rattle.cert_soundness.specs.Tests.{bidders_of, states, vickrey_of}
use Rattle.cert_stream.specs.declared.due.NextLine.TheVariants.{Den, Value, Choice, PartChoice, Payments}
use Rattle.cert_stream.specs.Rooms.{segment}
use Rattle.choices.specs.declared.chooser.Single.{Single}

-- A certificate whose facts can be reported, and a room with what they are reported from.
pub record HasAll (book : Book) (c : CertValue) (room : List ℤ) : Type 0 where
  pub of : HasFacts book c
  pub den : segment (bidders_of book) (states book) Den room ≡ c.den ∷ []
  pub value : segment (bidders_of book) (states book) Value room ≡ c.value ∷ []
  pub choice : segment (bidders_of book) (states book) Choice room ≡ as_numbers c.choice
  pub pay : segment (bidders_of book) (states book) Payments room ≡ c.pay
  pub parts : (j : ℕ) → 0 < j → j ≤ bidders_of book → IsTrue (uses c.choice j)
      → segment (bidders_of book) (states book) (PartChoice j) room ≡ as_numbers (part_of c.withouts j).choice

-- the single winner j, by the part without it
abbrev pub single_at : Book → CertValue → ℕ → Single
single_at book c j = record { winner = j; price = vickrey_of book c j; choice = (part_of c.withouts j).choice }
