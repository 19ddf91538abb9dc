use Rattle.std.proofs.Common.{ℕ, List, ◌++◌, drop}
use Rattle.core_price.specs.Turns.{turns_of}
use Rattle.print_grammar.specs.Turns.{AreTurnLines}
use Rattle.outcome.proofs.turns.rounds_text.Given as goal

abbrev pub invariant-loop-i : goal.invariant-loop-i
invariant-loop-i l = (rest : List ℕ) → AreTurnLines l.winners l.i (turns_of l.winners (drop l.i l.turns)) rest
    → AreTurnLines l.winners 0 (turns_of l.winners l.turns) (l.text ++ rest)
