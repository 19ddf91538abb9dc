use Rattle.std.proofs.Common.{◌≡◌, List, [], sym, subst}
use Rattle.std.specs.Prelude.{map}
use Rattle.slot_places.specs.Kept.{AreSlots}
use Rattle.slot_places.specs.Fields.{bidder_value}
use Rattle.slot_places.specs.declared.slots.BandBidder.{BandBidder}
use Rattle.slot_places.proofs.Within.{kept_slots, opened_within}
use Rattle.slot_places.proofs.slots.Slots.open.Goals as goal

pub invariant_of-result : goal.invariant_of-result
invariant_of-result c =
    let none : [] ≡ c.new.result.items = sym c.new.ensures.items in
    subst (λ (bs : List BandBidder). AreSlots (record { band = c.args.band; bidders = map bidder_value bs })) none
    (kept_slots _ (opened_within c.args.band c.requires.0 c.requires.1))
