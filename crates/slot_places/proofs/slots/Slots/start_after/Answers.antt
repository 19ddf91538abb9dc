use Rattle.std.proofs.Common.{◌+◌, arith}
use Rattle.slot_places.specs.SetTable.{holds}
use Rattle.slot_places.proofs.ReadLaws.{widths-to, width-one}
use Rattle.slot_places.proofs.slots.Slots.start_after.Goals as goal

pub overflow_add-start : goal.overflow_add-start
overflow_add-start c =
    let slots = c.args.self.now in
    let kept = c.bidders-k-end.ensures.kept in
    let low = widths-to slots kept (holds c.args.set) c.loop-k.k (omega arith) in
    let one = width-one slots kept (c.loop-k.k + 1) (omega arith) (omega arith) in
    omega (arith, low, one, c.loop-k.invariant, c.width-start.ensures)
