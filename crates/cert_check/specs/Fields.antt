-- Certificates by the numbers that a test reads.
use Rattle.std.specs.Prelude.{◌≡◌, ℕ, ◌<◌, ◌≤◌, List, [], ℤ, pos, if◌then◌else◌}
use Rattle.auction_model.specs.Book.{Book, market_of}
use Rattle.auction_model.specs.Lowered.{of_bidder}
use Rattle.auction_model.specs.Market.{uses, value_of}
use Rattle.cert_grammar.specs.Certificate.{CertValue, RowValue, WithoutValue, part_of}
use Rattle.cert_soundness.specs.Tests.{bidders_of}
use Rattle.cert_check.specs.declared.claim.Claim.{Claim}

-- a certificate of these, without tables
abbrev pub cert_of : ℤ → ℤ → List ℕ → List WithoutValue → List ℤ → List RowValue → CertValue
cert_of den value choice withouts pay rows = record { den = den; value = value; choice = choice; table = []; withouts = withouts; pay = pay; rows = rows; lowered = [] }

-- one of this value, this choice and this table
abbrev pub cert_headed : ℤ → List ℕ → List (List ℤ) → CertValue
cert_headed value choice table = record { den = pos 0; value = value; choice = choice; table = table; withouts = []; pay = []; rows = []; lowered = [] }

abbrev pub cert_with : Claim → List WithoutValue → List ℤ → List RowValue → CertValue
cert_with a withouts pay rows = cert_of a.den a.value a.choice.now withouts pay rows

-- a row of these members and this choice
abbrev pub row_with : List ℕ → List ℕ → RowValue
row_with members choice = record { members = members; first = pos 0; second = pos 0; choice = choice }

-- it has this denominator, this value and this choice
pub record IsOf (a : Claim) (c : CertValue) : Type 0 where
  pub den_is : c.den ≡ a.den
  pub value_is : c.value ≡ a.value
  pub choice_is : c.choice ≡ a.choice.now

-- the value of the choice without a winner, and 0 for a loser
abbrev pub worth_without : Book → List ℕ → List WithoutValue → ℕ → ℤ
worth_without book choice withouts j = if uses choice j then value_of (market_of book) (part_of withouts j).choice else pos 0

-- for each bidder that number
abbrev pub AreValuesWithout : Book → List ℕ → List WithoutValue → List ℤ → Type 0
AreValuesWithout book choice withouts values = (j : ℕ) → 0 < j → j ≤ bidders_of book
    → of_bidder values j ≡ worth_without book choice withouts j
