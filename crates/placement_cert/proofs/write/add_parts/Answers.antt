use Rattle.placement_cert.proofs.Written.{next_part}
use Rattle.placement_cert.proofs.write.add_parts.Goals as goal

pub loop-part-preserved : goal.loop-part-preserved
loop-part-preserved c =
    next_part c.args.parts.now c.loop-part.part-index c.part-item.result _ c.loop-part.text c.add_part.new.text c.loop-part-test.true c.part-item.is
    c.loop-part.invariant c.in_ok-add_part.ensures
