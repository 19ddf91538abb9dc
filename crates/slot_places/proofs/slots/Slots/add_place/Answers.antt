use Rattle.std.proofs.Common.{◌≡◌, ◌<◌, length, sym, ◌∙◌, subst, arith}
use Rattle.slot_places.specs.Kept.{AreSlots}
use Rattle.slot_places.proofs.ReadLaws.{bidders-read}
use Rattle.slot_places.proofs.Within.{kept_slots}
use Rattle.slot_places.proofs.Added.{places_same, place_pushed}
use Rattle.slot_places.proofs.slots.Slots.add_place.Goals as goal

pub invariant_of-self : goal.invariant_of-self
invariant_of-self c =
    let long : c.len-last.result ≡ length c.self.inside.bidders.items = c.len-last.ensures ∙ c.self.inside.bidders.ok.0 in
    let some : 0 < length c.self.inside.bidders.items = omega (arith, bidders-read c.self.inside c.args.self.now c.self.view_is) in
    subst AreSlots (sym (places_same c.self.inside c.len-last.result long some c.index_mut-bidder.result.now c.index_mut-bidder.ensures.value c.push.new.self
    c.in_err-push.ensures.items)) c.self.invariant

pub invariant_of-self-2 : goal.invariant_of-self-2
invariant_of-self-2 c =
    let long : c.len-last.result ≡ length c.self.inside.bidders.items = c.len-last.ensures ∙ c.self.inside.bidders.ok.0 in
    let some : 0 < length c.self.inside.bidders.items = omega (arith, bidders-read c.self.inside c.args.self.now c.self.view_is) in
    subst AreSlots (sym (place_pushed c.self.inside c.len-last.result long some c.index_mut-bidder.result.now c.index_mut-bidder.ensures.value c.push.new.self
    c.args.self.now c.args.place c.self.view_is c.in_ok-push.ensures.items)) (kept_slots _ c.requires.kept)

pub returns : goal.returns
returns c =
    let long : c.len-last.result ≡ length c.self.inside.bidders.items = c.len-last.ensures ∙ c.self.inside.bidders.ok.0 in
    let some : 0 < length c.self.inside.bidders.items = omega (arith, bidders-read c.self.inside c.args.self.now c.self.view_is) in
    place_pushed c.self.inside c.len-last.result long some c.index_mut-bidder.result.now c.index_mut-bidder.ensures.value c.push.new.self c.args.self.now
    c.args.place c.self.view_is c.in_ok-push.ensures.items
