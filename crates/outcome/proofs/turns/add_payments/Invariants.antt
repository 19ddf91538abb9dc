use Rattle.std.proofs.Common.{ℕ, List, ◌++◌, drop}
use Rattle.outcome.specs.Turns.{AreFractions, Grows}
use Rattle.outcome.proofs.turns.add_payments.Given as goal

abbrev pub invariant-loop-paid : goal.invariant-loop-paid
invariant-loop-paid l = (rest : List ℕ) → AreFractions l.den (drop l.paid-index l.at) rest → Grows l.initial.text (l.text ++ rest) (AreFractions l.den l.at)
