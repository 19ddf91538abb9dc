use Rattle.std.proofs.Common.{sym, subst}
use Rattle.slot_places.specs.Kept.{AreSlots}
use Rattle.slot_places.proofs.Within.{kept_slots}
use Rattle.slot_places.proofs.Added.{bidder_added}
use Rattle.slot_places.proofs.slots.Slots.add_bidder.Goals as goal

pub invariant_of-self-2 : goal.invariant_of-self-2
invariant_of-self-2 c =
    subst AreSlots (sym (bidder_added c.self.inside c.args.self.now (record { name = c.args.name; width = c.args.width; places = c.new-places.result })
    c.push.new.self c.self.view_is c.in_ok-push.ensures.items c.new-places.ensures.items)) (kept_slots _ c.requires)

pub returns : goal.returns
returns c =
    bidder_added c.self.inside c.args.self.now (record { name = c.args.name; width = c.args.width; places = c.new-places.result }) c.push.new.self
    c.self.view_is c.in_ok-push.ensures.items c.new-places.ensures.items
