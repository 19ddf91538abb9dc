use Rattle.placement_cert.proofs.Written.{next_row}
use Rattle.placement_cert.proofs.write.add_payments.Goals as goal

pub loop-row-preserved : goal.loop-row-preserved
loop-row-preserved c =
    next_row c.args.rows.now c.loop-row.row-index c.row-item.result _ c.loop-row.text c.add_row.new.text c.loop-row-test.true c.row-item.is
    c.loop-row.invariant c.in_ok-add_row.ensures
