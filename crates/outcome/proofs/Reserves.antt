-- The reserve of the package of a bid is at most the greatest amount.
use Rattle.std.proofs.Common.{◌≡◌, ℕ, zero, suc, ◌-◌, ◌<◌, ◌≤◌, length, pos, arith}
use Rattle.std.proofs.lemmas.Int.{ints}
use Rattle.auction_model.specs.Book.{Book, bids_of, no_bid, no_bidder}
use Rattle.bid_book.proofs.Within.{each_at, each_or, sound}
use Rattle.bid_book.specs.Kept.{IsBidBook}
use Rattle.bid_book.specs.Sound.{IsSoundBid, IsSoundBidder}
use Rattle.limits.specs.declared.TheConstants.{MOST_AMOUNT}
use Rattle.print_grammar.specs.Prices.{reserve_of}

-- since no bid is below the reserve of its package
pub reserve-most : (book : Book) (j i r : ℕ) → IsBidBook book → 0 < i → i ≤ length (bids_of book j) → pos r ≡ reserve_of book j i → r ≤ MOST_AMOUNT
reserve-most book j zero r kept some known is = absurd (omega arith)
reserve-most book j (suc i) r kept some known is =
    let bidder = each_or (IsSoundBidder book.supply book.reserves) book.bidders (j - 1) no_bidder (sound book kept.rules)
    (record { few = omega arith; each = tt }) in
    let bid = each_at (IsSoundBid book.supply book.reserves) (bids_of book j) i no_bid bidder.each (omega arith) in
    omega (arith, ints, is, bid.reserve, bid.top)
