-- Bids that change no entry.
use Rattle.std.specs.Prelude.{ℕ, zero, suc, ◌≤◌, ◌<◌, length, ℤ, neg_ℤ, pos, ◌≤ℤ◌, refl}
use Rattle.std.specs.Int.{int_max}
use Rattle.std.proofs.Common.{arith}
use Rattle.std.proofs.lemmas.Int.{ints, int_max_is}
use Rattle.auction_model.specs.Book.{bids_of}
use Rattle.auction_model.specs.Lowered.{of_bidder}
use Rattle.auction_model.proofs.DominatedLaws.{lowered-in_order}
use Rattle.bid_book.specs.Better.{IsBetter}
use Rattle.bid_book.specs.Kept.{IsBidBook}
use Rattle.value_table.specs.declared.lowered_bids.LoweredBids.{LoweredBids}
use Rattle.value_table.specs.Counted.{seat, net_at, counted, IsNeedless}

counted-in_order : (l : LoweredBids) (j i h : ℕ) → 0 < h → h < i → pos 0 ≤ℤ l.den → pos 0 ≤ℤ net_at l j i → net_at l j i ≤ℤ net_at l j h
    → counted l j i ≤ℤ counted l j h
counted-in_order l j zero h some low den own le = absurd (omega (arith, low))
counted-in_order l j (suc i) zero some low den own le = absurd (omega (arith, some))
counted-in_order l j (suc i) (suc h) some low den own le = lowered-in_order l.den (net_at l j (suc i)) (net_at l j (suc h)) _ den own le

-- a bid is needless if an earlier one asks for no more and is worth at least as much
pub needless-better : (l : LoweredBids) (j i h : ℕ) → IsBidBook l.book.now → i ≤ length (bids_of l.book.now (seat l j)) → 0 < h → pos 0 ≤ℤ l.den
    → IsBetter l.book.now (seat l j) i h → IsNeedless l j i
needless-better l j i h kept known some den better = record {
  other = h;
  earlier = better.earlier;
  smaller = better.smaller;
  worth = counted-in_order l j i h some better.earlier den (kept.not_negative (seat l j) i known) better.worth;
}

-- a bid is needless if it counts no more than having none
pub needless-idle : (l : LoweredBids) (j i : ℕ) → 0 < i → counted l j i ≤ℤ counted l j 0 → IsNeedless l j i
needless-idle l j i some le = record { other = 0; earlier = some; smaller = refl; worth = le }

-- having none never counts less than 0
pub idle-sign : (l : LoweredBids) (j : ℕ) → pos 0 ≤ℤ counted l j 0
idle-sign l j = sign (of_bidder l.surplus.now j)
  where
    sign : (s : ℤ) → pos 0 ≤ℤ int_max (pos 0) (neg_ℤ s)
    sign s = omega (arith, ints, int_max_is (pos 0) (neg_ℤ s))
