use Rattle.std.proofs.Common.{◌+◌, ◌-◌}
use Rattle.bid_book.proofs.book.rivals.Rivals.take.Given as goal

abbrev pub decreases-loop-self : goal.decreases-loop-self
decreases-loop-self l = l.place + 1 - l.self.reached
