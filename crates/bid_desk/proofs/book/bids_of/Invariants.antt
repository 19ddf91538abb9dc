-- The bids of the clock from the round on, and of the list.
use Rattle.std.proofs.Common.{◌≡◌, ◌≤◌, length, map}
use Rattle.clock_stage.specs.Kept.{categories_in}
use Rattle.relative_cap.specs.OwnRounds.{bid_value}
use Rattle.bid_desk.specs.Lists.{IsKept}
use Rattle.bid_desk.proofs.BookLaws.{bids_from}
use Rattle.bid_desk.proofs.book.bids_of.Given as goal

abbrev pub invariant-loop-r : goal.invariant-loop-r
invariant-loop-r l = record {
  inside : l.r ≤ length l.history;
  bids : map bid_value l.bids.items ≡ bids_from l.history l.j (map bid_value l.submitted) l.r;
  kept : IsKept (categories_in l.history) (map bid_value l.bids.items);
}
