use Rattle.auction_model.specs.Market.{value_of}
use Rattle.slot_places.specs.Board.{market_of_slots}
use Rattle.slot_places.specs.Slots.{amount_of}
use Rattle.slot_places.proofs.WithoutLaws.{first-none, table-none}
use Rattle.slot_places.proofs.slot_chooser.place_best.Goals as goal

pub returns-clause-choice : goal.returns-clause-choice
returns-clause-choice c = first-none c.args.slots.now (value_of (market_of_slots c.args.slots.now)) c.in_ok-found.found.choice c.in_ok-found.ensures.choice

pub returns-clause-table : goal.returns-clause-table
returns-clause-table c = table-none c.args.slots.now (amount_of c.args.slots.now) c.in_ok-found.found.table c.in_ok-found.ensures.table
