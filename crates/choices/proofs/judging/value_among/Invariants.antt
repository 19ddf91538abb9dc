use Rattle.std.proofs.Common.{◌≡◌, ◌≤◌, ◌*◌, ◌^◌, ◌+ℤ◌, ◌≤ℤ◌, pos, drop, unsigned_abs}
use Rattle.auction_model.specs.Market.{sum_after}
use Rattle.auction_model.specs.Book.{net_of}
use Rattle.choices.proofs.judging.value_among.Given as goal

abbrev pub invariant-loop-k : goal.invariant-loop-k
invariant-loop-k l = record {
  whole : l.value +ℤ sum_after (net_of l.book) l.k (drop l.k l.numbers) ≡ sum_after (net_of l.book) 0 l.numbers;
  not_negative : pos 0 ≤ℤ l.value;
  size : unsigned_abs l.value ≤ l.k * 2 ^ 42;
}
