-- What pricing slots by their chooser finds is what it finds of the slots, and why it doesn't stop for too many winners.
use Rattle.std.specs.Prelude.{◌≡◌, ℕ, List, ℤ, refl}
use Rattle.auction_model.specs.Greatest.{IsWinning}
use Rattle.auction_model.specs.Lowered.{lowered}
use Rattle.auction_model.specs.Market.{value_of}
use Rattle.auction_model.specs.Prices.{alike}
use Rattle.auction_model.specs.PricingRun.{IsPricingRun}
use Rattle.choices.specs.Singles.{AreSingles}
use Rattle.choices.specs.declared.chooser.Found.{Found}
use Rattle.choices.specs.declared.chooser.Single.{Single}
use Rattle.core_price.specs.Priced.{IsPriced}
use Rattle.core_price.specs.Stops.{IsStop}
use Rattle.core_price.specs.Turns.{turns_of}
use Rattle.core_laws.specs.Weights.{ManyWin}
use Rattle.core_price.specs.declared.priced.PriceStop.{PriceStop}
use Rattle.core_price.specs.declared.priced.PriceStop.TheVariants.{Memory, Winners}
use Rattle.core_price.specs.declared.priced.Priced.{Priced}
use Rattle.core_price.specs.declared.priced.Turn.{Turn}
use Rattle.placement_cert.specs.declared.certificate.PlaceWithout.{PlaceWithout}
use Rattle.place_price.proofs.Alike.{run-alike}
use Rattle.place_price.specs.Found.{AreFound}
use Rattle.place_price.specs.Ones.{ones}
use Rattle.place_price.specs.PlacedParts.{ArePartsOf}
use Rattle.core_laws.specs.Surplus.{surpluses_of}
use Rattle.core_laws.specs.Winners.{for_bidders}
use Rattle.slot_places.specs.Board.{board_of, market_of_slots}
use Rattle.slot_places.specs.SetTable.{IsSetTable}
use Rattle.slot_places.specs.Slots.{SlotList, amount_of}

-- if never too many win, only memory can be wanting
pub stop-memory : (z weights : List ℕ) (stop : PriceStop) → (ManyWin z weights → ⊥) → IsStop z weights stop → stop ≡ Memory
stop-memory z weights (Winners n) none is = absurd (none is.0)
stop-memory z weights Memory none is = refl

-- the chooser's slots and choice are those that are priced
pub found-by : (slots own : SlotList) (chosen : List ℕ) (whole : Found (List (List ℤ))) (singles : List Single) (parts : List PlaceWithout)
    (priced : Priced (List (List ℤ)))
    → own ≡ slots → chosen ≡ whole.choice
    → IsWinning (market_of_slots slots) whole.choice → whole.sum ≡ value_of (market_of_slots slots) whole.choice → IsSetTable (board_of slots) (amount_of slots) whole.table
    → AreSingles (market_of_slots own) chosen singles → ArePartsOf own singles parts → IsPriced (market_of_slots own) chosen (ones own) singles priced
    → IsSetTable (board_of own) (lowered priced.den (amount_of own) (surpluses_of (market_of_slots own) chosen priced.den (for_bidders chosen priced.at)))
    priced.last.table
    → AreFound slots whole singles parts priced
found-by slots own chosen whole singles parts priced same_slots same_choice winning value table are_singles are_parts is lowered_is = record {
  winning = winning;
  value = value;
  table = table;
  are_singles = rw (same_slots, same_choice) at are_singles;
  are_parts = rw same_slots at are_parts;
  priced_is = rw (same_slots, same_choice) at is;
  lowered = rw (same_slots, same_choice) at lowered_is;
}

-- the turns that led to these prices, for the choice of the certificate
module _ (slots : SlotList) (z choice : List ℕ) (singles : List Single) (priced : Priced (List (List ℤ))) (turns : List Turn)
    (own : IsPriced (market_of_slots slots) z (ones slots) singles priced) (choice_is : choice ≡ z) (turns_are : turns ≡ priced.turns) where
  -- the turns are a pricing run, in which all bidders weigh 1
  pub run-of : IsPricingRun (market_of_slots slots) alike choice (turns_of choice turns)
  run-of = rw (choice_is, turns_are) (run-alike (market_of_slots slots) z (turns_of z priced.turns) own.turns.run)
