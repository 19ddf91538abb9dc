use Rattle.std.proofs.Common.{◌≡◌, ◌≤◌, ◌*◌, ◌^◌, not, unsigned_abs}
use Rattle.auction_model.specs.Book.{market_of}
use Rattle.auction_model.specs.Market.{worth_in}
use Rattle.auction_model.specs.Prices.{sum_over}
use Rattle.cert_grammar.specs.Certificate.{is_member}
use Rattle.cert_check.proofs.sums.won_beside.Given as goal

abbrev pub invariant-loop-k : goal.invariant-loop-k
invariant-loop-k l = record {
  sum : l.sum ≡ sum_over (λ j. not (is_member l.members j)) (worth_in (market_of l.book) l.choice) l.k;
  size : unsigned_abs l.sum ≤ l.k * 2 ^ 120;
}
