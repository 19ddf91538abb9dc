use Rattle.std.proofs.Common.{◌≡◌, ◌≤◌, ◌-◌, take, length}
use Rattle.wide_num.proofs.Decimal.{read_on, AreDigits}
use Rattle.line_format.proofs.numbers.short_field.Given as goal

abbrev pub decreases-loop-stop : goal.decreases-loop-stop
decreases-loop-stop l = length l.text - l.stop

abbrev pub invariant-loop-stop : goal.invariant-loop-stop
invariant-loop-stop l = record {
  within : l.stop ≤ length l.text;
  digits : AreDigits (take l.stop l.text);
  value : l.number ≡ read_on 0 (take l.stop l.text);
}
