use Rattle.std.proofs.Common.{length}
use Rattle.place_price.proofs.printing.lines.+add_placed.Given as goal

abbrev pub decreases-add_placed : goal.decreases-add_placed
decreases-add_placed l = length l.order.now
