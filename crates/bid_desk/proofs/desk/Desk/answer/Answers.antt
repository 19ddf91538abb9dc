-- The answer of each kind of line.
use Rattle.std.proofs.Common.{sym, subst}
use Rattle.auction_rules.specs.declared.Event.{Event}
use Rattle.auction_rules.specs.declared.Event.TheVariants.{Submit}
use Rattle.bid_desk.specs.Reached.{Takes}
use Rattle.bid_desk.proofs.TakeLaws.{takes-other}
use Rattle.bid_desk.proofs.desk.Desk.answer.Goals as goal

pub returns-in-Submit : goal.returns-in-Submit
returns-in-Submit c =
    subst (λ (line : Event). Takes c.args.self.now line c.submit.result c.submit.new.self) (sym c.in-Submit.is)
    (takes-other c.args.self.now c.submit.new.self (Submit c.in-Submit.bidder) c.submit.result (λ no. no) c.submit.ensures)
