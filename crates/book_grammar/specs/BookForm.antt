-- Which books have a text.
use Rattle.std.specs.Prelude.{◌≡◌, ◌≢◌, ◌⊎◌, ℕ, ◌≤◌, ◌<◌, IsTrue, List, [], ◌∷◌, ◌++◌, length, replicate}
use Rattle.std.specs.List.{AllByRecursion}
use Rattle.limits.specs.declared.TheConstants.{MOST_AMOUNT, MOST_COUNT, MOST_NAME_BYTES, MOST_PRICE}
use Rattle.auction_model.specs.Package.{is_within, cost_of, ComesBefore}
use Rattle.auction_model.specs.Book.{BookBid, Bidder, Book}

-- a letter a to z
abbrev pub IsLetter : ℕ → Type 0
IsLetter c = (97 ≤ c) × (c ≤ 122)

-- a letter, a digit or '_'
abbrev pub IsNameByte : ℕ → Type 0
IsNameByte c = IsLetter c ⊎ ((48 ≤ c) × (c ≤ 57)) ⊎ (c ≡ 95)

-- 1 to 20 bytes of letters, digits and '_', a letter first
abbrev pub IsName : List ℕ → Type 0
IsName [] = ⊥
IsName (c ∷ cs) = IsLetter c × AllByRecursion IsNameByte cs × (length cs < MOST_NAME_BYTES)

-- what is sold: at least one category, each of 1 to 999 lots
pub record IsOffer (supply : List ℕ) : Type 0 where
  pub some : 0 < length supply
  pub each : AllByRecursion (λ n. (1 ≤ n) × (n ≤ MOST_COUNT)) supply

-- a reserve for each category
pub record AreReserves (supply reserves : List ℕ) : Type 0 where
  pub count : length reserves ≡ length supply
  pub each : AllByRecursion (λ n. n ≤ MOST_PRICE) reserves

-- a bid that may follow one with the package before
pub record IsBid (supply reserves before : List ℕ) (bid : BookBid) : Type 0 where
  pub categories : length bid.lots ≡ length supply
  pub within : IsTrue (is_within bid.lots supply)
  pub after : ComesBefore before bid.lots
  pub reserve : cost_of reserves bid.lots ≤ bid.amount
  pub top : bid.amount ≤ MOST_AMOUNT

abbrev pub AreBids : List ℕ → List ℕ → List ℕ → List BookBid → Type 0
AreBids supply reserves before [] = Unit {0}
AreBids supply reserves before (b ∷ bs) = IsBid supply reserves before b × AreBids supply reserves b.lots bs

-- the empty package comes before the first bid of a bidder, so no package is empty
abbrev pub empty_package : List ℕ → List ℕ
empty_package supply = replicate (length supply) 0

-- a bidder that may follow these
pub record IsBidder (supply reserves : List ℕ) (earlier : List Bidder) (bidder : Bidder) : Type 0 where
  pub name : IsName bidder.name
  pub unused : AllByRecursion (λ b. b.name ≢ bidder.name) earlier
  pub bids : AreBids supply reserves (empty_package supply) bidder.bids

abbrev pub AreBidders : List ℕ → List ℕ → List Bidder → List Bidder → Type 0
AreBidders supply reserves earlier [] = Unit {0}
AreBidders supply reserves earlier (b ∷ bs) = IsBidder supply reserves earlier b
    × AreBidders supply reserves (earlier ++ b ∷ []) bs

pub record IsBook (book : Book) : Type 0 where
  pub supply : IsOffer book.supply
  pub reserves : AreReserves book.supply book.reserves
  pub bidders : AreBidders book.supply book.reserves [] book.bidders
