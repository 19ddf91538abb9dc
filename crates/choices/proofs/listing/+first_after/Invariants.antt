use Rattle.std.proofs.Common.{◌≡◌, ◌≤◌, ◌-◌, ◌*◌, ◌^◌, length, unsigned_abs}
use Rattle.auction_model.specs.Market.{sum_after}
use Rattle.auction_model.specs.Place.{left_at}
use Rattle.auction_model.specs.Book.{menu_of, net_of}
use Rattle.choices.proofs.ListingLaws.{IsBestPast}
use Rattle.choices.proofs.listing.+first_after.Given as goal

abbrev pub decreases-first_after : goal.decreases-first_after
decreases-first_after l = length l.book.now.bidders - l.k

-- the best of the choices that begin with a number from the last one down
abbrev pub invariant-loop-i : goal.invariant-loop-i
invariant-loop-i l = record {
  best : IsBestPast (menu_of l.book) (net_of l.book) l.k (left_at l.book.supply l.place) l.i l.best.numbers;
  value : l.best.value ≡ sum_after (net_of l.book) l.k l.best.numbers;
  size : unsigned_abs l.best.value ≤ (length l.book.bidders - l.k) * 2 ^ 42;
}
