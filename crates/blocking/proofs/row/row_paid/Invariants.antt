use Rattle.std.proofs.Common.{◌≡◌}
use Rattle.auction_model.specs.Lowered.{of_bidder}
use Rattle.auction_model.specs.Prices.{sum_over}
use Rattle.core_laws.specs.Winners.{idle_row}
use Rattle.blocking.proofs.row.row_paid.Given as goal

abbrev pub invariant-loop-k : goal.invariant-loop-k
invariant-loop-k g l = l.sum ≡ sum_over (idle_row (g.C.Chooser.market l.chooser) (g.C.Chooser.chosen l.chooser) (record { den = l.den; at = l.at }) l.choice)
    (of_bidder l.at) l.k
