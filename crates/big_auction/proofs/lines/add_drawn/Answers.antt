use Rattle.std.proofs.Common.{OnOk, subst, ◌++◌, ◌≡◌}
use Rattle.auction_rules.specs.declared.Event.{Event}
use Rattle.big_auction.specs.LogText.{event_text}
use Rattle.big_auction.specs.Parts.{counts_of, figures_of}
use Rattle.big_auction.proofs.Drawing.{next-next}
use Rattle.big_auction.proofs.LinesAdded.{draft-same}
use Rattle.big_auction.proofs.lines.add_drawn.Goals as goal

pub returns-clause-text : goal.returns-clause-text
returns-clause-text c =
    subst (λ (e : Event). OnOk c.add_draft.result (c.add_draft.new.text ≡ c.args.text.now ++ event_text e))
    (draft-same c.args.draws.now.state c.package-lots.new.self.state c.args.bidder.now.number (figures_of c.args.prices.now) (counts_of c.args.bidder.now.own)
    (counts_of c.args.bidder.now.last)
    (counts_of c.package-lots.result) c.draw.result c.amount-amount.result c.package-lots.ensures.state c.package-lots.ensures.drawn c.draw.ensures.drawn
    c.amount-amount.ensures)
    c.add_draft.ensures

pub returns-clause-state : goal.returns-clause-state
returns-clause-state c = next-next c.args.draws.now.state c.package-lots.new.self.state c.draw.new.self.state 4 c.package-lots.ensures.state
    c.draw.ensures.state
