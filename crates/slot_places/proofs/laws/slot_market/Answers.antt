use Rattle.slot_places.proofs.MarketLaws.{market-of_slots}
use Rattle.slot_places.proofs.laws.slot_market.Goals as goal

pub returns : goal.returns
returns c = market-of_slots
