use Rattle.std.proofs.Common.{◌≡◌, take}
use Rattle.wide_num.proofs.Decimal.{read_on, AreDigits}
use Rattle.line_format.specs.Fields.{IsTally}
use Rattle.line_format.proofs.numbers.read_long.Given as goal

abbrev pub invariant-loop-c : goal.invariant-loop-c
invariant-loop-c l = record {
  here : l.stop ≡ l.c-index;
  digits : AreDigits (take l.stop l.text);
  tally : IsTally l.tally (read_on 0 (take l.stop l.text));
}
