-- What a test can use from the tests before it.
use Rattle.std.specs.Prelude.{◌≡◌, ℕ, ◌<◌, ◌≤◌, ◌^◌, IsTrue, List, length, ℤ, pos, ◌+ℤ◌, ◌*ℤ◌, ◌≤ℤ◌, ◌<ℤ◌}
use Rattle.auction_model.specs.Book.{Book, bids_of, market_of, net_of}
use Rattle.auction_model.specs.Market.{value_of}
use Rattle.cert_grammar.specs.Certificate.{CertValue}
use Rattle.cert_soundness.specs.Tests.{Asks, C1, C2, C3, bidders_of}

-- it is true at all places before this one
abbrev pub HoldsBefore : (ℕ → Type 0) → ℕ → Type 0
HoldsBefore P n = (place : ℕ) → place < n → P place

-- all tests before this one pass
abbrev pub HoldsUpTo : Book → (ℕ → ℕ) → CertValue → ℕ → Type 0
HoldsUpTo book w c n = (test place : ℕ) → test < n → Asks book w c test place

-- the first three tests pass: the sizes, the choice and its table
pub record HeadHolds (book : Book) (c : CertValue) : Type 0 where
  pub sizes : (place : ℕ) → C1 c place
  pub choice : (place : ℕ) → C2 book c place
  pub table : (place : ℕ) → C3 book c place

-- What they show: the choice is allowed and has the value, no allowed choice has a greater one, no bid is above it, and den times the
-- value is in the range.
pub record IsHead (book : Book) (den value : ℤ) (choice : List ℕ) : Type 0 where
  pub count : length choice ≡ bidders_of book
  pub den_least : pos 1 ≤ℤ den
  pub value_least : pos 0 ≤ℤ value
  pub small : (den *ℤ (value +ℤ pos 1)) <ℤ pos (2 ^ 120)
  pub allowed : IsTrue ((market_of book).allowed choice)
  pub reached : value_of (market_of book) choice ≡ value
  pub most : (d : List ℕ) → IsTrue ((market_of book).allowed d) → value_of (market_of book) d ≤ℤ value
  pub nets : (j i : ℕ) → 0 < j → j ≤ bidders_of book → i ≤ length (bids_of book j)
      → (pos 0 ≤ℤ net_of book j i) × (net_of book j i ≤ℤ value)
