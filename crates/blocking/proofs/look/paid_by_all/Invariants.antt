use Rattle.std.proofs.Common.{◌≡◌}
use Rattle.auction_model.specs.Lowered.{of_bidder}
use Rattle.auction_model.specs.Prices.{everyone, sum_over}
use Rattle.blocking.proofs.look.paid_by_all.Given as goal

abbrev pub invariant-loop-paid : goal.invariant-loop-paid
invariant-loop-paid l = l.sum ≡ sum_over everyone (of_bidder l.at) l.paid-index
