use Rattle.std.proofs.Common.{◌∙◌, sym, arith}
use Rattle.lots.proofs.CountLaws.{within-goes_on}
use Rattle.bid_book.proofs.book.better.are_no_more.Goals as goal

pub loop-i-preserved : goal.loop-i-preserved
loop-i-preserved c = record {
  lengths = c.loop-i.invariant.lengths;
  rest = sym (within-goes_on c.args.counts.now c.args.others.now c.loop-i.i (omega arith) c.loop-i.invariant.lengths (omega arith)) ∙ c.loop-i.invariant.rest;
}
