use Rattle.std.proofs.Common.{ℕ, ◌<◌, IsTrue, [], get_or}
use Rattle.table_check.specs.Growth.{Grows}
use Rattle.table_check.specs.LineTests.{ObeysIn}
use Rattle.cert_check.proofs.whole.grids.table_fault.Given as goal

abbrev pub invariant-loop-k : goal.invariant-loop-k
invariant-loop-k l = record {
  obeys : (k s : ℕ) → k < l.k → ObeysIn l.offers l.table k s;
  grows : IsTrue l.known → Grows l.offers.book.now.supply (get_or l.table l.k []);
}
