use Rattle.std.proofs.Common.{◌≡◌, ◌≢◌, ◌<◌, ◌^◌, length, get_or, take}
use Rattle.wide_num.proofs.Decimal.{read_on, AreDigits}
use Rattle.wide_num.proofs.decimals.read_natural.Given as goal

abbrev pub invariant-loop-byte : goal.invariant-loop-byte
invariant-loop-byte l = record {
  some : 0 < length l.text;
  leading : 1 < length l.text → get_or l.text 0 0 ≢ 48;
  value : l.n ≡ read_on 0 (take l.byte-index l.text);
  small : l.n < 2 ^ 120;
  digits : AreDigits (take l.byte-index l.text);
}
