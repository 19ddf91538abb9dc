-- Tables whose sums are of 62 bits.
use Rattle.std.specs.Prelude.{◌≡◌, ℕ, ◌+◌, ◌-◌, ◌*◌, ◌^◌, ◌≤◌, length, get_or, pos, unsigned_abs, ◌==◌}
use Rattle.std.proofs.Common.{arith}
use Rattle.std.proofs.lemmas.Bool.{cond_both}
use Rattle.std.proofs.lemmas.Nat.{mul-le}
use Rattle.auction_model.specs.Book.{bids_of}
use Rattle.auction_model.specs.Lowered.{greatest_size, of_bidder}
use Rattle.auction_model.proofs.PlainLaws.{greatest-at_most, sum_to-at_most}
use Rattle.bid_book.specs.Kept.{IsBidBook}
use Rattle.value_table.proofs.Plain.{net-small}
use Rattle.value_table.specs.declared.lowered_bids.LoweredBids.{LoweredBids}
use Rattle.value_table.specs.Counted.{seat, net_at, counted_bids, IsNarrow}

-- no more bids count than the bidder has
pub counted-fewer : (l : LoweredBids) (j : ℕ) → (counted_bids l).bids j ≤ length (bids_of l.book.now (seat l j))
counted-fewer l j = cond_both (j == l.skip) 0 (length (bids_of l.book.now (seat l j))) (λ n. n ≤ length (bids_of l.book.now (seat l j))) (λ _. omega arith)
    (λ _. omega arith)

module _ (l : LoweredBids) where
  -- with a denominator up to 2^13 and surpluses up to 2^56, no sum leaves 62 bits
  pub narrow-spread : IsBidBook l.book.now → unsigned_abs l.den ≤ 2 ^ 13 → ((k : ℕ) → unsigned_abs (get_or l.surplus.now k (pos 0)) ≤ 2 ^ 56) → IsNarrow l
  narrow-spread kept den surplus =
      let bids = (counted_bids l).bids in
      let top = λ (j : ℕ). greatest_size (net_at l j) (bids j) in
      let small : (j : ℕ) → top j ≤ 2 ^ 42 = λ j. greatest-at_most (net_at l j) (bids j) (2 ^ 42)
      (λ i low. net-small l.book.now (seat l j) i kept (omega (arith, low, counted-fewer l j))) in
      let one : (j : ℕ) → unsigned_abs l.den * top j + unsigned_abs (of_bidder l.surplus.now j) ≤ 2 ^ 55 + 2 ^ 56 =
      λ j. omega (arith, surplus (j - 1), mul-le (unsigned_abs l.den) (top j) (2 ^ 13) (2 ^ 42) den (small j)) in
      omega (
        arith,
        kept.bidders,
        sum_to-at_most (λ j. unsigned_abs l.den * top j + unsigned_abs (of_bidder l.surplus.now j)) (length l.book.now.bidders)
            (2 ^ 55 + 2 ^ 56) one,
      )

  -- so none does if bids count their net amounts
  pub plain-narrow : IsBidBook l.book.now → l.den ≡ pos 1 → ((k : ℕ) → get_or l.surplus.now k (pos 0) ≡ pos 0) → IsNarrow l
  plain-narrow kept den zeros = narrow-spread kept (rw den (omega arith)) (λ k. rw (zeros k) (omega arith))
