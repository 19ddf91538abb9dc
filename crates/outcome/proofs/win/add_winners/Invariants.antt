use Rattle.std.proofs.Common.{◌≡◌, ◌++◌, drop}
use Rattle.print_grammar.specs.WinText.{winner_lines}
use Rattle.outcome.proofs.win.add_winners.Given as goal

abbrev pub invariant-loop-k : goal.invariant-loop-k
invariant-loop-k l = l.text ++ winner_lines l.book l.k (drop l.k l.choice) ≡ l.initial.text ++ winner_lines l.book 0 l.choice
