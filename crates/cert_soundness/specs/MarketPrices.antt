-- What the payments and the parts of a certificate amount to in any market: the worths less the surpluses of winners, and the
-- Vickrey prices.
use Rattle.std.specs.Prelude.{ℕ, ℤ, pos, ◌-ℤ◌, ◌*ℤ◌, if◌then◌else◌}
use Rattle.auction_model.specs.Market.{Market, uses}
use Rattle.auction_model.specs.Lowered.{of_bidder}
use Rattle.cert_grammar.specs.Certificate.{CertValue}
use Rattle.cert_soundness.specs.MarketTests.{won_in, vickrey_in}

-- den times the worth of a bid, less, for a bidder that wins, den times what it wins with minus what it pays
abbrev pub lowered_in : Market → CertValue → ℕ → ℕ → ℤ
lowered_in m c j i = (c.den *ℤ m.worth j i) -ℤ (if uses c.choice j then (c.den *ℤ won_in m c j) -ℤ of_bidder c.pay j else pos 0)

-- the Vickrey prices by the parts, and 0 for losers
abbrev pub prices_in : Market → CertValue → ℕ → ℤ
prices_in m c j = if uses c.choice j then vickrey_in m c j else pos 0
