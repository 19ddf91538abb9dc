use Rattle.std.proofs.Common.{◌≡◌, ◌≤◌, ◌*◌, ◌^◌, unsigned_abs}
use Rattle.auction_model.specs.Lowered.{of_bidder}
use Rattle.auction_model.specs.Prices.{sum_over}
use Rattle.cert_grammar.specs.Certificate.{is_member}
use Rattle.cert_check.proofs.sums.paid_by.Given as goal

abbrev pub invariant-loop-k : goal.invariant-loop-k
invariant-loop-k l = record {
  sum : l.sum ≡ sum_over (is_member l.members) (of_bidder l.payments) l.k;
  size : unsigned_abs l.sum ≤ l.k * 2 ^ 120;
}
