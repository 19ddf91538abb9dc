use Rattle.std.proofs.Common.{◌≡◌, ◌≤◌, ◌-◌, ◌++◌, drop, length}
use Rattle.line_format.specs.Numeral.{numbers_text}
use Rattle.cert_text.proofs.fields.add_fields.Given as goal

abbrev pub invariant-loop-done : goal.invariant-loop-done
invariant-loop-done l = record {
  written : l.text ++ numbers_text (drop l.done l.numbers) ≡ l.initial.text ++ numbers_text l.numbers;
  within : l.done ≤ length l.numbers;
}

abbrev pub decreases-loop-done : goal.decreases-loop-done
decreases-loop-done l = length l.numbers - l.done
