-- The facts that can be printed.
use Rattle.std.specs.Prelude.{◌≡◌, ℕ, ◌<◌, ◌≤◌, ◌^◌, IsTrue, List, length, map, ℤ, pos, ◌≤ℤ◌, ◌<ℤ◌, unsigned_abs}
use Rattle.std.specs.List.{AllByRecursion}
use Rattle.auction_model.specs.Book.{Book, market_of, menu_of}
use Rattle.auction_model.specs.Market.{uses, value_of}
use Rattle.auction_model.specs.Menu.{is_known_after}
use Rattle.auction_model.specs.Prices.{Point}
use Rattle.cert_summary.specs.declared.shown.CertFacts.{CertFacts}
use Rattle.choices.specs.declared.chooser.Single.{Single}
use Rattle.choices.specs.Singles.{winners_after}
use Rattle.wide_num.specs.Range.{InRange}
use Rattle.wide_num.specs.Sums.{nth, total}

-- the book knows their choice, they have its winners with small prices, and their payments aren't below 0 and have a sum of the range
pub record IsPrintable (book : Book) (facts : CertFacts) : Type 0 where
  pub known : IsTrue (is_known_after (menu_of book) 0 facts.choice)
  pub value : value_of (market_of book) facts.choice ≡ facts.value
  pub winners : map (λ s. s.winner) facts.singles ≡ winners_after 0 facts.choice
  pub prices_small : AllByRecursion (λ s. unsigned_abs s.price ≤ 2 ^ 47) facts.singles
  pub den : (pos 1 ≤ℤ facts.den) × InRange facts.den
  pub payments : length facts.pay ≡ length facts.choice
  pub not_negative : (i : ℕ) → i < length facts.pay → pos 0 ≤ℤ nth facts.pay i
  pub small : total (length facts.pay) (nth facts.pay) <ℤ pos (2 ^ 120)

-- one of their winners
pub record IsWinnerOf (facts : CertFacts) (s : Single) : Type 0 where
  pub bidder : (0 < s.winner) × (s.winner ≤ length facts.choice)
  pub wins : IsTrue (uses facts.choice s.winner)
  pub price_small : unsigned_abs s.price ≤ 2 ^ 47

-- the payments over their denominator
abbrev pub point_of : CertFacts → Point
point_of facts = record { den = facts.den; at = facts.pay }

-- v are the prices of these winners
abbrev pub HavePrices : (ℕ → ℤ) → List Single → Type 0
HavePrices v singles = AllByRecursion (λ s. s.price ≡ v s.winner) singles
