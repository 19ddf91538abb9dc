use Rattle.std.proofs.Common.{◌≡◌, ◌++◌, take}
use Rattle.line_format.specs.Numeral.{numbers_text}
use Rattle.line_format.proofs.write.add_run.Given as goal

abbrev pub invariant-loop-i : goal.invariant-loop-i
invariant-loop-i l = l.text ≡ l.initial.text ++ numbers_text (take l.i l.numbers)
