use Rattle.cert_check.specs.Gains.{gain_of}
use Rattle.cert_check.proofs.Written.{AreWritten}
use Rattle.cert_check.proofs.tables.gains.put_each.Given as goal

abbrev pub invariant-loop-k : goal.invariant-loop-k
invariant-loop-k l = AreWritten (gain_of l.book l.den l.choice l.pay) l.gains l.k
