use Rattle.std.proofs.Common.{◌≡◌, length, drop}
use Rattle.auction_model.specs.Package.{is_within}
use Rattle.bid_book.proofs.book.better.are_no_more.Given as goal

abbrev pub invariant-loop-i : goal.invariant-loop-i
invariant-loop-i l = record {
  lengths : length l.counts ≡ length l.others;
  rest : is_within (drop l.i l.counts) (drop l.i l.others) ≡ is_within l.counts l.others;
}
