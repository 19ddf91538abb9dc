use Rattle.big_auction.proofs.Drawing.{four-states, four-drawn}
use Rattle.big_auction.proofs.draws.Draws.package.Goals as goal

pub returns-clause-state : goal.returns-clause-state
returns-clause-state c =
    four-states c.args.self.now.state c.draw.new.self.state c.draw-b.new.self.state c.draw-c.new.self.state c.draw-e.new.self.state
    c.draw.ensures.state c.draw-b.ensures.state c.draw-c.ensures.state c.draw-e.ensures.state

pub returns-clause-drawn : goal.returns-clause-drawn
returns-clause-drawn c =
    four-drawn c.args.self.now.state c.draw.new.self.state c.draw-b.new.self.state c.draw-c.new.self.state
    c.draw.result c.draw-b.result c.draw-c.result c.draw-e.result c.args.most.a c.args.most.b c.args.most.c c.args.most.e
    c.draw.ensures.state c.draw-b.ensures.state c.draw-c.ensures.state c.draw.ensures.drawn c.draw-b.ensures.drawn c.draw-c.ensures.drawn c.draw-e.ensures.drawn
