-- What the checker's acceptance means for slots and a placement certificate.
use Rattle.std.specs.Prelude.{◌≡◌, IsTrue}
use Rattle.auction_model.specs.Greatest.{IsGreatest}
use Rattle.auction_model.specs.Market.{value_of}
use Rattle.auction_model.specs.Prices.{AreVickreyPrices, IsCoreOutcome, alike}
use Rattle.cert_soundness.specs.MarketPrices.{prices_in}
use Rattle.cert_soundness.specs.Sound.{cert_point}
use Rattle.slot_places.specs.Board.{market_of_slots}
use Rattle.slot_places.specs.Orders.{allows}
use Rattle.slot_places.specs.Slots.{SlotList}
use Rattle.cert_grammar.specs.PlaceCert.{PlaceCertValue}

-- The order places the choice, the choice is greatest, the value is its value, the parts show the Vickrey prices, and the
-- choice and the payments are the core outcome, if each bidder weighs 1. The choice need not be the first of the greatest.
pub record IsPlaceSound (slots : SlotList) (p : PlaceCertValue) : Type 0 where
  pub order : IsTrue (allows slots p.order p.cert.choice)
  pub greatest : IsGreatest (market_of_slots slots).allowed (value_of (market_of_slots slots)) p.cert.choice
  pub value : value_of (market_of_slots slots) p.cert.choice ≡ p.cert.value
  pub vickrey : AreVickreyPrices (market_of_slots slots) p.cert.choice (prices_in (market_of_slots slots) p.cert)
  pub outcome : IsCoreOutcome (market_of_slots slots) alike p.cert.choice (cert_point p.cert)
