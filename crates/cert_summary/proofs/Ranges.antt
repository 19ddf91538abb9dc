-- The values of known choices of a book, and Vickrey prices, are within the range of numbers.
use Rattle.std.proofs.Common.{ℕ, suc, ◌*◌, ◌≤◌, ◌^◌, nat_le, IsTrue, List, [], ◌∷◌, length, pos, ◌≤ℤ◌, arith}
use Rattle.std.proofs.lemmas.Int.{ints}
use Rattle.std.proofs.lemmas.Bool.{and_parts, leb-true}
use Rattle.auction_model.specs.Book.{Book, bids_of, market_of, menu_of, net_of}
use Rattle.auction_model.specs.Market.{sum_after, value_of}
use Rattle.auction_model.specs.Menu.{is_known_after}
use Rattle.auction_model.proofs.ChoiceLaws.{known-length}
use Rattle.bid_book.specs.Kept.{IsBidBook}

module _ (book : Book) (kept : IsBidBook book) where
  sum-between : (k : ℕ) (c : List ℕ) → IsTrue (is_known_after (menu_of book) k c) → (pos 0 ≤ℤ sum_after (net_of book) k c)
      × (sum_after (net_of book) k c ≤ℤ pos (length c * 2 ^ 42))
  sum-between k [] known = (omega (arith, ints), omega (arith, ints))
  sum-between k (i ∷ c) known =
      let parts = and_parts (nat_le i (length (bids_of book (suc k)))) (is_known_after (menu_of book) (suc k) c) known in
      let most : i ≤ length (bids_of book (suc k)) = leb-true i (length (bids_of book (suc k))) parts.0 in
      let low = kept.not_negative (suc k) i most in
      let high = kept.most (suc k) i most in
      let rest = sum-between (suc k) c parts.1 in
      (omega (arith, ints, low, rest.0), omega (arith, ints, high, rest.1))

  -- the value of a known choice is from 0 to 16 times 2 ^ 42
  pub value-between : (c : List ℕ) → IsTrue (is_known_after (menu_of book) 0 c) → (pos 0 ≤ℤ value_of (market_of book) c)
      × (value_of (market_of book) c ≤ℤ pos (16 * 2 ^ 42))
  value-between c known =
      let long = known-length (menu_of book) 0 c known in
      let between = sum-between 0 c known in
      (between.0, omega (arith, ints, between.1, long, kept.bidders))
