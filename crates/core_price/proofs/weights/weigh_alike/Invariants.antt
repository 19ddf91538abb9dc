-- The winners that were passed weigh 1.
use Rattle.core_price.proofs.WeightLaws.{AlikeTo}
use Rattle.core_price.proofs.weights.weigh_alike.Given as goal

abbrev pub invariant-loop-k : goal.invariant-loop-k
invariant-loop-k l = AlikeTo l.numbers l.weights l.k
