use Rattle.std.proofs.Common.{length}
use Rattle.place_price.proofs.printing.lines.+add_winners.Given as goal

abbrev pub decreases-add_winners : goal.decreases-add_winners
decreases-add_winners l = length l.numbers.now
