use Rattle.std.proofs.Common.{◌∙◌, ap, length}
use Rattle.auction_rules.specs.State.{round_in}
use Rattle.bid_desk.proofs.DeskLaws.{round-same}
use Rattle.bid_desk.proofs.desk.Desk.round.Goals as goal

pub returns : goal.returns
returns c = c.round.ensures ∙ round-same c.self.inside.clock.running c.self.inside.closed (length c.self.inside.clock.rounds) c.self.invariant.3
    ∙ ap round_in c.self.view_is
