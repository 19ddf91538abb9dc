use Rattle.std.proofs.Common.{◌+◌}
use Rattle.cert_check.specs.EarlierBids.{NoneEarlier}
use Rattle.cert_check.specs.Fields.{cert_headed}
use Rattle.cert_check.specs.Head.{HoldsBefore}
use Rattle.cert_check.proofs.whole.earlier.earlier_fault.Given as goal

abbrev pub invariant-loop-k : goal.invariant-loop-k
invariant-loop-k l = HoldsBefore (NoneEarlier l.book (cert_headed l.value l.choice l.table)) (l.k + 1)
