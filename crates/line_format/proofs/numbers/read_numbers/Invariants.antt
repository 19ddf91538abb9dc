use Rattle.std.proofs.Common.{◌-◌, length, List, ℤ}
use Rattle.line_format.specs.Fields.{KeepsNumbers}
use Rattle.line_format.proofs.numbers.read_numbers.Given as goal

abbrev pub decreases-loop-at : goal.decreases-loop-at
decreases-loop-at l = length l.text - l.at

abbrev pub invariant-loop-at : goal.invariant-loop-at
invariant-loop-at l = (ns : List ℤ) × KeepsNumbers l.text l.at ns l.out.items l.beyond
