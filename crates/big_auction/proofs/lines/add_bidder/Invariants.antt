use Rattle.big_auction.specs.Parts.{counts_of, figures_of}
use Rattle.big_auction.proofs.LinesAdded.{IsDrafted}
use Rattle.big_auction.proofs.lines.add_bidder.Given as goal

abbrev pub invariant-loop-draft : goal.invariant-loop-draft
invariant-loop-draft l = IsDrafted l.initial.draws.state l.bidder.number (figures_of l.prices) (counts_of l.bidder.own)
    (counts_of l.bidder.last) l._draft l.draws.state l.initial.text l.text
