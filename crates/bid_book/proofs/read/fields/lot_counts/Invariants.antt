use Rattle.std.proofs.Common.{◌≡◌, ◌≤◌, take}
use Rattle.std.specs.List.{AllByRecursion}
use Rattle.bid_book.proofs.read.fields.lot_counts.Given as goal

abbrev pub invariant-loop-number : goal.invariant-loop-number
invariant-loop-number l = record {
  same : l.counts.items ≡ take l.number-index l.numbers;
  low : AllByRecursion (λ n. n ≤ 999) (take l.number-index l.numbers);
}
