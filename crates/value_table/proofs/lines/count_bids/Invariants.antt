use Rattle.std.proofs.Common.{◌-◌, map}
use Rattle.value_table.specs.Counted.{counted_bids, counted}
use Rattle.value_table.specs.Raising.{MayBeInUnits}
use Rattle.value_table.proofs.DownLaws.{IsLineFrom}
use Rattle.value_table.proofs.lines.count_bids.Given as goal

abbrev pub invariant-loop-i : goal.invariant-loop-i
invariant-loop-i g l = record {
  line : IsLineFrom (counted_bids l.lowered) (counted l.lowered) l.lowered.book.now.supply (l.j - 1) l.i (map g.C.Cell.number l.line);
  units : MayBeInUnits g.C.Cell.number l.shift l.line l.below l.low l.high;
}
