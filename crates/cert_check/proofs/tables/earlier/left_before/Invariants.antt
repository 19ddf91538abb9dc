use Rattle.cert_check.specs.EarlierBids.{IsLeft}
use Rattle.cert_check.proofs.tables.earlier.left_before.Given as goal

abbrev pub invariant-loop-k : goal.invariant-loop-k
invariant-loop-k l = IsLeft l.book l.choice l.fn.value l.k l.rest l.bound
