use Rattle.std.proofs.Common.{◌≤◌, arith, length}
use Rattle.auction_model.specs.Book.{bids_of}
use Rattle.value_table.specs.Counted.{seat}
use Rattle.value_table.proofs.NarrowLaws.{counted-fewer}
use Rattle.value_table.proofs.tracing.place_left.Goals as goal

pub place_after-requires-clause-bid : goal.place_after-requires-clause-bid
place_after-requires-clause-bid c =
    let l = c.args.lowered.now in
    let known : c.args.i ≤ length (bids_of l.book.now (seat l c.args.j)) = omega (arith, c.requires.bid, counted-fewer l c.args.j) in
    rw c.bidder.ensures.bidder known
