use Rattle.std.proofs.Common.{◌≡◌, length}
use Rattle.nearest_point.specs.Found.{IsBelowBy}
use Rattle.nearest_point.proofs.exchange.shared_part.Given as goal

abbrev pub invariant-loop-j : goal.invariant-loop-j
invariant-loop-j l = record {
  long : length l.out.items ≡ l.j;
  small : IsBelowBy 20 l.out.items;
}
