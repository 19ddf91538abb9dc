use Rattle.review.specs.ReviewValue.{AreLeftLines, lines_of}
use Rattle.value_table.specs.LineBuffers.{HasRoom}
use Rattle.auction_model.specs.Place.{states_of}
use Rattle.review.proofs.lines.renew_left.Given as goal

abbrev pub invariant-loop-k : goal.invariant-loop-k
invariant-loop-k l = record { lines : AreLeftLines l.book l.k (lines_of l.lines.items); buffers : HasRoom (states_of l.book.supply) l.buffers }
