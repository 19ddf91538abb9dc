use Rattle.std.proofs.Common.{◌≡◌, ◌≤◌, drop, length}
use Rattle.core_laws.specs.Winners.{idle_row, bits_after}
use Rattle.blocking.proofs.row.row_members.Given as goal

abbrev pub invariant-loop-k : goal.invariant-loop-k
invariant-loop-k g l = record {
  inside : l.k ≤ length l.at;
  bits : l.members ≡ bits_after (drop l.k (g.C.Chooser.chosen l.chooser)) (idle_row (g.C.Chooser.market l.chooser) (g.C.Chooser.chosen l.chooser)
      (record { den = l.den; at = l.at }) l.choice) l.k;
}

abbrev pub decreases-loop-k : goal.decreases-loop-k
decreases-loop-k g l = l.k
