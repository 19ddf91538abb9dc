use Rattle.std.proofs.Common.{◌≡◌, ◌++◌, drop}
use Rattle.line_format.specs.Decimals.{decimals_text}
use Rattle.line_format.proofs.write.add_amounts.Given as goal

abbrev pub invariant-loop-amount : goal.invariant-loop-amount
invariant-loop-amount l = l.text ++ decimals_text (drop l.amount-index l.amounts) ≡ l.initial.text ++ decimals_text l.amounts
