use Rattle.std.proofs.Common.{◌≡◌, ◌∙◌, ap, arith, length}
use Rattle.auction_model.specs.Lowered.{sum_to}
use Rattle.slot_places.specs.Slots.{SlotList, width_of}
use Rattle.slot_places.specs.SlotForm.{width_together}
use Rattle.slot_places.proofs.Within.{widths_are}
use Rattle.slot_places.proofs.slots.Slots.room.Goals as goal

pub returns : goal.returns
returns c =
    let slots = c.args.self.now in
    let kept = c.bidders-k-end.ensures.kept in
    let all : c.loop-k.k ≡ length slots.bidders = omega arith in
    let same = widths_are slots in
    let used : c.loop-k.used ≡ width_together slots.bidders = c.loop-k.invariant ∙ (ap (sum_to (width_of slots)) all ∙ same) in
    let widths = kept.widths in
    let band = ap (λ (x : SlotList). x.band) c.self.view_is in
    omega (arith, used, widths, same, band)
