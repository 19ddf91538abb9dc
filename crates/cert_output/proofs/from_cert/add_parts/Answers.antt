use Rattle.cert_text.proofs.Written.{next_part}
use Rattle.cert_output.proofs.from_cert.add_parts.Goals as goal

pub loop-part-preserved : goal.loop-part-preserved
loop-part-preserved c =
    next_part c.args.parts.now c.loop-part.part-index c.part-item.result _ c.loop-part.long c.add_part.new.long c.loop-part-test.true c.part-item.is
    c.loop-part.invariant c.in_ok-add_part.ensures
