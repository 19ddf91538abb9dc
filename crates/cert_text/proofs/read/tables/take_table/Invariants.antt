use Rattle.cert_text.proofs.TableSteps.{TableSoFar}
use Rattle.cert_text.proofs.read.tables.take_table.Given as goal

abbrev pub invariant-loop-count : goal.invariant-loop-count
invariant-loop-count l = TableSoFar l.fn.bytes l.fn.place l.fn.shape.bidders l.fn.shape.states l._count l.next l.table
