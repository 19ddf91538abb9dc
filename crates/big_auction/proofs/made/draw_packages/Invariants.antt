use Rattle.big_auction.proofs.MadeLines.{ArePacked}
use Rattle.big_auction.proofs.made.draw_packages.Given as goal

abbrev pub invariant-loop-bidder : goal.invariant-loop-bidder
invariant-loop-bidder l = ArePacked l.initial.draws.state l._bidder l.draws.state l.packages.items
