use Rattle.std.proofs.Common.{◌<◌, List, ℕ, ◌++◌}
use Rattle.auction_model.specs.Place.{left_at, states_of}
use Rattle.auction_model.specs.Menu.{fits_after}
use Rattle.auction_model.specs.Market.{sum_after}
use Rattle.auction_model.specs.Greatest.{IsFirstGreatest}
use Rattle.value_table.specs.Counted.{counted_bids, counted}
use Rattle.value_table.proofs.tracing.trace_slices.Given as goal

-- a first greatest choice of the bidders that are left makes one of all
abbrev pub invariant-loop-k : goal.invariant-loop-k
invariant-loop-k g l = record {
  place : l.place < states_of l.lowered.book.now.supply;
  rest : (r : List ℕ) → IsFirstGreatest (fits_after (counted_bids l.lowered) l.k (left_at l.lowered.book.now.supply l.place))
      (sum_after (counted l.lowered) l.k) r → IsFirstGreatest (fits_after (counted_bids l.lowered) 0 l.lowered.book.now.supply)
      (sum_after (counted l.lowered) 0) (l.numbers ++ r);
}
