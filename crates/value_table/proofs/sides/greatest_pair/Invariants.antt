use Rattle.std.proofs.Common.{get_or, []}
use Rattle.choices.specs.Lines.{width_of}
use Rattle.value_table.proofs.PairSums.{IsPairSoFar}
use Rattle.value_table.proofs.sides.greatest_pair.Given as goal

abbrev pub invariant-loop-s : goal.invariant-loop-s
invariant-loop-s l = IsPairSoFar (width_of l.left) (get_or l.left l.before []) (get_or l.right l.after []) l.s l.most
