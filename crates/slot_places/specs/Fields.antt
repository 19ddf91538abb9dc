-- The slots in the fields.
use Rattle.std.specs.Prelude.{map}
use Rattle.slot_places.specs.Slots.{SlotBid, SlotBidder, SlotList}
use Rattle.slot_places.specs.declared.slots.Place.{Place}
use Rattle.slot_places.specs.declared.slots.BandBidder.{BandBidder}
use Rattle.slot_places.specs.declared.slots.Slots.TheInside.{Inside}

abbrev pub bid_value : Place → SlotBid
bid_value p = record { start = p.start; amount = p.amount }

abbrev pub bidder_value : BandBidder → SlotBidder
bidder_value r = record { name = r.name; width = r.width; bids = map bid_value r.places.items }

abbrev pub slots_value : Inside → SlotList
slots_value s = record { band = s.band; bidders = map bidder_value s.bidders.items }
