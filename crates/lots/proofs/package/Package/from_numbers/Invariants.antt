use Rattle.std.proofs.Common.{◌≡◌, length, take}
use Rattle.lots.proofs.package.Package.from_numbers.Given as goal

abbrev pub invariant-loop-i : goal.invariant-loop-i
invariant-loop-i l = record {
  room : length l.counts ≡ 6;
  front : take l.i l.counts ≡ take l.i l.numbers;
}
