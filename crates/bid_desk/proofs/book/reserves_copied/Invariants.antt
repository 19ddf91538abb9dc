-- The reserves so far.
use Rattle.std.proofs.Common.{◌≡◌, take}
use Rattle.bid_desk.proofs.book.reserves_copied.Given as goal

abbrev pub invariant-loop-reserve : goal.invariant-loop-reserve
invariant-loop-reserve l = l.copies ≡ take l.reserve-index l.reserves
