use Rattle.cert_check.proofs.LoweredLaws.{IsPaidTo}
use Rattle.cert_check.proofs.tables.sum_paid.Given as goal

abbrev pub invariant-loop-k : goal.invariant-loop-k
invariant-loop-k l = IsPaidTo l.payments l.k l.sum
