use Rattle.std.proofs.Common.{◌+◌, ◌<◌, ℕ, map, IsTrue, ◌<ℤ◌}
use Rattle.auction_model.specs.Package.{is_within}
use Rattle.auction_model.specs.Place.{left_at}
use Rattle.auction_model.specs.Steps.{sum_with}
use Rattle.value_table.specs.Counted.{counted_bids, counted}
use Rattle.value_table.proofs.tracing.first_number.Given as goal

abbrev pub invariant-loop-i : goal.invariant-loop-i
invariant-loop-i g l = (h : ℕ) → h < l.i → IsTrue (is_within ((counted_bids l.lowered).lots l.j (h + 1))
    (left_at l.lowered.book.now.supply l.place)) → sum_with (counted_bids l.lowered) (counted l.lowered) l.lowered.book.now.supply l.j l.place
    (map g.C.Cell.number l.below) (h + 1) <ℤ l.here
