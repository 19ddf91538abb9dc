use Rattle.std.proofs.Common.{◌≡◌, length}
use Rattle.review.proofs.review.no_numbers.Given as goal

abbrev pub invariant-loop-number : goal.invariant-loop-number
invariant-loop-number l = length l.numbers ≡ l._number
