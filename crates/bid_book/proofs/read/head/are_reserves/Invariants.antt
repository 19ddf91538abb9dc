use Rattle.std.proofs.Common.{◌≤◌, ◌^◌, take}
use Rattle.std.specs.List.{AllByRecursion}
use Rattle.bid_book.proofs.read.head.are_reserves.Given as goal

abbrev pub invariant-loop-number : goal.invariant-loop-number
invariant-loop-number l = AllByRecursion (λ n. n ≤ 2 ^ 36) (take l.number-index l.numbers)
