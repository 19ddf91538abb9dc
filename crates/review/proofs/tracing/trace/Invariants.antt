use Rattle.std.proofs.Common.{◌≡◌, ◌<◌, ◌++◌, ℕ, List, length, take}
use Rattle.auction_model.specs.Book.{market_of, menu_of, net_of}
use Rattle.auction_model.specs.Greatest.{IsFirstGreatest, IsWinning}
use Rattle.auction_model.specs.Market.{sum_after}
use Rattle.auction_model.specs.Menu.{fits_after}
use Rattle.auction_model.specs.Place.{left_at, states_of}
use Rattle.review.proofs.tracing.trace.Given as goal

-- a first greatest choice of the bidders that are left, after the numbers so far, is the winning choice
abbrev pub invariant-loop-k : goal.invariant-loop-k
invariant-loop-k l = record {
  place : l.place < states_of l.book.supply;
  count : length l.choice ≡ length l.book.bidders;
  rest : (r : List ℕ) → IsFirstGreatest (fits_after (menu_of l.book) l.k (left_at l.book.supply l.place)) (sum_after (net_of l.book) l.k) r
      → IsWinning (market_of l.book) (take l.k l.choice ++ r);
}
