use Rattle.std.proofs.Common.{◌≤◌, length}
use Rattle.bid_book.proofs.book.rivals.first_inner.Given as goal

abbrev pub invariant-loop-inner : goal.invariant-loop-inner
invariant-loop-inner l = record {
  widths : l.inner ≤ length l.widths;
  counts : l.inner ≤ length l.counts;
}

abbrev pub decreases-loop-inner : goal.decreases-loop-inner
decreases-loop-inner l = l.inner
