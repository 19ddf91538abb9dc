-- The weights of the winners that were passed, and those that are left.
use Rattle.std.proofs.Common.{◌≡◌, ◌++◌, drop}
use Rattle.core_laws.specs.Weights.{weights_in}
use Rattle.core_price.proofs.weights.winner_weights.Given as goal

abbrev pub invariant-loop-k : goal.invariant-loop-k
invariant-loop-k l = l.list.items ++ weights_in (drop l.k l.numbers) (drop l.k l.weights) ≡ weights_in l.numbers l.weights
