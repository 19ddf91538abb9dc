-- A desk stands for a log, and so it has the lists of each bidder.
use Rattle.std.proofs.Common.{subst, arith}
use Rattle.std.proofs.lemmas.Bool.{leb-true}
use Rattle.auction_rules.specs.State.{DeskState}
use Rattle.bid_desk.specs.DeskValue.{desk_value}
use Rattle.bid_desk.specs.Known.{IsKnown}
use Rattle.bid_desk.proofs.ReachedLaws.{known-reached}
use Rattle.bid_desk.proofs.desk.Desk.knows.Goals as goal

pub returns-then-bidder-gt0-clause-known : goal.returns-then-bidder-gt0-clause-known
returns-then-bidder-gt0-clause-known c = λ few.
    subst (λ (st : DeskState). IsKnown st.terms st c.args.bidder) c.self.view_is
    (known-reached (desk_value c.self.inside.award c.self.inside.clock c.self.inside.closed c.self.inside.bidders.items) c.args.bidder
    c.bidders-bidders.ensures.kept.supply.lots c.self.invariant.1 (omega (arith, c.if-bidder-gt0.true))
    (omega (arith, leb-true c.args.bidder c.bidders-bidders.result few, c.bidders-bidders.ensures.bidders)))
