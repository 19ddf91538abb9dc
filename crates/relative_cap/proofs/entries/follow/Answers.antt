-- One bid more, and after the last nothing is left.
use Rattle.std.proofs.Common.{refl, arith}
use Rattle.relative_cap.proofs.TestedLaws.{front-more, front-whole}
use Rattle.relative_cap.proofs.entries.follow.Goals as goal

pub loop-place-init : goal.loop-place-init
loop-place-init c = record { room = omega arith; each = c.requires.entries; same = refl }

pub loop-place-preserved : goal.loop-place-preserved
loop-place-preserved c =
    front-more c.args.history.now c.args.points.now c.args.j c.loop-place.place c.args.list.now c.index-list-place.result c.loop-place.entries.items
    c.put_at.new.entries.items c.loop-place-test.true
    c.index-list-place.is c.loop-place.invariant c.put_at.ensures.entries c.in_ok-put_at.ensures.put

pub returns-clause-list : goal.returns-clause-list
returns-clause-list c =
    front-whole c.args.history.now c.args.points.now c.args.j c.loop-place.place c.args.list.now c.loop-place.entries.items c.truncate.new.self.items
    c.loop-place-test.false c.loop-place.auto.place-end
    c.loop-place.invariant c.truncate.ensures.items
