use Rattle.placement_cert.proofs.RowSteps.{RowsSoFar}
use Rattle.placement_cert.proofs.read.rows.take_rows.Given as goal

abbrev pub invariant-loop-row : goal.invariant-loop-row
invariant-loop-row l = RowsSoFar l.fn.bytes l.fn.place l.fn.bidders l.fn.count l._row l.next l.rows
