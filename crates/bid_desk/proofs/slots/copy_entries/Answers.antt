-- One entry more, and then all.
use Rattle.std.proofs.Common.{refl, arith}
use Rattle.bid_desk.proofs.CopyLaws.{copied-more, copied-whole}
use Rattle.bid_desk.proofs.slots.copy_entries.Goals as goal

pub loop-place-init : goal.loop-place-init
loop-place-init c = record { room = omega arith; same = refl }

pub loop-place-preserved : goal.loop-place-preserved
loop-place-preserved c =
    copied-more c.args.from.now c.loop-place.list.items c.copy_entry.new.list.items c.loop-place.place c.index-from-place.result c.loop-place-test.true
    c.index-from-place.is c.loop-place.invariant
    c.in_ok-copy_entry.ensures

pub returns : goal.returns
returns c =
    copied-whole c.args.from.now c.loop-place.list.items c.truncate.new.self.items c.loop-place.place c.loop-place-test.false c.loop-place.auto.place-end
    c.loop-place.invariant c.truncate.ensures.items
