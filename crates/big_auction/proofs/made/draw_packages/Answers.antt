use Rattle.big_auction.proofs.MadeLines.{packed-none, packed-more}
use Rattle.big_auction.proofs.made.draw_packages.Goals as goal

pub loop-bidder-init : goal.loop-bidder-init
loop-bidder-init c = packed-none c.args.draws.now.state c.in_ok-packages.packages.items c.in_ok-packages.ensures.items

pub loop-bidder-preserved : goal.loop-bidder-preserved
loop-bidder-preserved c =
    packed-more c.args.draws.now.state c.loop-bidder._bidder c.loop-bidder.draws.state c.package.new.self.state c.loop-bidder.packages.items
    c.push.new.self.items c.package.result
    c.loop-bidder.invariant c.package.ensures.drawn c.package.ensures.state c.in_ok-push.ensures.items
