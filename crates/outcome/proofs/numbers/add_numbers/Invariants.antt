use Rattle.std.proofs.Common.{◌≡◌, ◌++◌, drop}
use Rattle.line_format.specs.Decimals.{decimals_text}
use Rattle.outcome.proofs.numbers.add_numbers.Given as goal

abbrev pub invariant-loop-number : goal.invariant-loop-number
invariant-loop-number l = l.text ++ decimals_text (drop l.number-index l.numbers) ≡ l.initial.text ++ decimals_text l.numbers
