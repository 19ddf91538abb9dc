use Rattle.std.proofs.Common.{◌≡◌, ◌*◌, ◌^◌, ◌≤◌, sum, take}
use Rattle.lots.proofs.counts.lots_among.Given as goal

abbrev pub invariant-loop-count : goal.invariant-loop-count
invariant-loop-count l = record {
  total : l.lots ≡ sum (take l.count-index l.counts);
  most : l.lots ≤ l.count-index * 2 ^ 16;
}
