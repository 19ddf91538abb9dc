-- The winners that were passed and those that are left are all winners.
use Rattle.std.proofs.Common.{◌≡◌, ◌+◌, ◌≤◌, drop}
use Rattle.core_laws.specs.Winners.{winners_in}
use Rattle.core_price.proofs.bidders.count_winners.Given as goal

abbrev pub invariant-loop-number : goal.invariant-loop-number
invariant-loop-number l = record {
  counted : l.count + winners_in (drop l.number-index l.numbers) ≡ winners_in l.numbers;
  most : l.count ≤ l.number-index;
}
