use Rattle.std.proofs.Common.{◌≡◌, take}
use Rattle.auction_tests.proofs.samples.choice_of.Given as goal

abbrev pub invariant-loop-number : goal.invariant-loop-number
invariant-loop-number l = l.list ≡ take l.number-index l.numbers
