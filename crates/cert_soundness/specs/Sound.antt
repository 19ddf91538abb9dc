-- What the checker's acceptance means for a book and a certificate.
use Rattle.std.specs.Prelude.{◌≡◌, ℕ, ℤ, pos, if◌then◌else◌}
use Rattle.auction_model.specs.Book.{Book, market_of}
use Rattle.auction_model.specs.Greatest.{IsWinning}
use Rattle.auction_model.specs.Market.{uses, value_of}
use Rattle.auction_model.specs.Prices.{AreVickreyPrices, IsCoreOutcome, Point}
use Rattle.cert_grammar.specs.Certificate.{CertValue}
use Rattle.cert_soundness.specs.Tests.{vickrey_of}

-- the payments over their denominator
abbrev pub cert_point : CertValue → Point
cert_point c = record { den = c.den; at = c.pay }

-- the Vickrey prices by the parts, and 0 for losers
abbrev pub cert_prices : Book → CertValue → ℕ → ℤ
cert_prices book c j = if uses c.choice j then vickrey_of book c j else pos 0

-- The choice is the winning one, the value is its value, the parts show the Vickrey prices, and the choice and the payments are
-- the core outcome with these weights.
pub record IsSound (book : Book) (w : ℕ → ℕ) (c : CertValue) : Type 0 where
  pub winning : IsWinning (market_of book) c.choice
  pub value : value_of (market_of book) c.choice ≡ c.value
  pub vickrey : AreVickreyPrices (market_of book) c.choice (cert_prices book c)
  pub outcome : IsCoreOutcome (market_of book) w c.choice (cert_point c)
