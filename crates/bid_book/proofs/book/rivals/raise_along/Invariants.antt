use Rattle.std.proofs.Common.{◌<◌}
use Rattle.bid_book.proofs.book.rivals.raise_along.Given as goal

abbrev pub invariant-loop-place : goal.invariant-loop-place
invariant-loop-place l = l.phase < l.all
