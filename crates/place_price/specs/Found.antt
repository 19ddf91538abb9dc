-- What pricing finds of slots: words of private contracts.
use Rattle.std.specs.Prelude.{◌≡◌, List, ℤ}
use Rattle.auction_model.specs.Greatest.{IsWinning}
use Rattle.auction_model.specs.Lowered.{lowered}
use Rattle.auction_model.specs.Market.{value_of}
use Rattle.choices.specs.Singles.{AreSingles}
use Rattle.choices.specs.declared.chooser.Found.{Found}
use Rattle.choices.specs.declared.chooser.Single.{Single}
use Rattle.core_price.specs.Priced.{IsPriced}
use Rattle.core_price.specs.declared.priced.Priced.{Priced}
use Rattle.placement_cert.specs.declared.certificate.PlaceWithout.{PlaceWithout}
use Rattle.place_price.specs.Ones.{ones}
use Rattle.place_price.specs.PlacedParts.{ArePartsOf}
use Rattle.core_laws.specs.Surplus.{surpluses_of}
use Rattle.core_laws.specs.Winners.{for_bidders}
use Rattle.slot_places.specs.Board.{board_of, market_of_slots}
use Rattle.slot_places.specs.SetTable.{IsSetTable}
use Rattle.slot_places.specs.Slots.{SlotList, amount_of}

-- the winning choice with its worth and the table of the amounts, the single winners with their parts, and the prices
pub record AreFound (slots : SlotList) (whole : Found (List (List ℤ))) (singles : List Single) (parts : List PlaceWithout) (priced : Priced (List (List ℤ))) : Type 0 where
  pub winning : IsWinning (market_of_slots slots) whole.choice
  pub value : whole.sum ≡ value_of (market_of_slots slots) whole.choice
  pub table : IsSetTable (board_of slots) (amount_of slots) whole.table
  pub are_singles : AreSingles (market_of_slots slots) whole.choice singles
  pub are_parts : ArePartsOf slots singles parts
  pub priced_is : IsPriced (market_of_slots slots) whole.choice (ones slots) singles priced
  pub lowered : IsSetTable (board_of slots) (lowered priced.den (amount_of slots) (surpluses_of (market_of_slots slots) whole.choice priced.den (for_bidders whole.choice priced.at))) priced.last.table
