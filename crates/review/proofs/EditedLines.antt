-- Which lines of both sides stay if one bidder has other bids.
use Rattle.std.specs.Prelude.{◌≡◌, ◌≢◌, ℕ, zero, suc, ◌-◌, ◌≤◌, ◌<◌, true, List, length, get_or, ℤ, pos, ◌-ℤ◌, refl}
use Rattle.std.proofs.Common.{sym, ◌∙◌, ap, subst, arith}
use Rattle.std.proofs.lemmas.List.{get_or-set_other}
use Rattle.std.proofs.Math.ListN.{length-set}
use Rattle.auction_model.specs.Book.{Bidder, Book, BookBid, bid_of, bidder_of, bidder_with, bids_of, lots_of, menu_of, net_of, no_bid, no_bidder}
use Rattle.auction_model.specs.Package.{cost_of}
use Rattle.auction_model.specs.Table.{IsLine}
use Rattle.bid_book.specs.Changes.{with_bids}
use Rattle.value_table.specs.SideLines.{IsLeftLine, IsRightLine}
use Rattle.value_table.specs.Turned.{in_order, worths_in_order}
use Rattle.value_table.proofs.LineLaws.{line-left, line-turned}
use Rattle.review.proofs.SameLines.{AreSameAfter, line-same}

module _ (book : Book) (j : ℕ) (bids : List BookBid) (some : 0 < j) where
  -- there are as many bidders
  pub bidders-same : length (with_bids book j bids).bidders ≡ length book.bidders
  bidders-same = length-set book.bidders (j - 1) (bidder_with (bidder_of book j).name bids)

  -- each other bidder is as before
  pub bidder-other : (q : ℕ) → 0 < q → q ≢ j → bidder_of (with_bids book j bids) q ≡ bidder_of book q
  bidder-other q first other =
      let apart : q - 1 ≢ j - 1 = λ e. other (omega (arith, e, first, some)) in
      get_or-set_other book.bidders (j - 1) (q - 1) (bidder_with (bidder_of book j).name bids) no_bidder apart

  pub count-other : (q : ℕ) → 0 < q → q ≢ j → length (bids_of (with_bids book j bids) q) ≡ length (bids_of book q)
  count-other q first other = ap (λ (b : Bidder). length b.bids) (bidder-other q first other)

  pub bid-other : (q h : ℕ) → 0 < q → q ≢ j → bid_of (with_bids book j bids) q h ≡ bid_of book q h
  bid-other q zero first other = refl
  bid-other q (suc h) first other = ap (λ (b : Bidder). get_or b.bids h no_bid) (bidder-other q first other)

  pub lots-other : (q h : ℕ) → 0 < q → q ≢ j → lots_of (with_bids book j bids) q h ≡ lots_of book q h
  lots-other q h first other = ap (λ (b : BookBid). b.lots) (bid-other q h first other)

  pub net-other : (q h : ℕ) → 0 < q → q ≢ j → net_of (with_bids book j bids) q h ≡ net_of book q h
  net-other q zero first other = refl
  net-other q (suc h) first other = ap (λ (b : BookBid). pos b.amount -ℤ pos (cost_of book.reserves b.lots)) (bid-other q (suc h) first other)

  -- the bidders from j on don't count in a line of those after k
  right-after : (k : ℕ) → j ≤ k → AreSameAfter (menu_of book) (menu_of (with_bids book j bids)) (net_of book) (net_of (with_bids book j bids)) k
  right-after k low =
      let other : (i : ℕ) → k ≤ i → suc i ≢ j = λ i from e. absurd (omega (arith, low, from, e)) in
      record {
        bidders = sym bidders-same;
        bids = λ i from inside. sym (count-other (suc i) (omega arith) (other i from));
        lots = λ i h from inside. sym (lots-other (suc i) h (omega arith) (other i from));
        worths = λ i h from inside. sym (net-other (suc i) h (omega arith) (other i from));
      }

  -- so the line of the bidders after k stays, if k is at least j
  pub right-stays : (k : ℕ) (line : List ℤ) → j ≤ k → IsRightLine book k line → IsRightLine (with_bids book j bids) k line
  right-stays k line low e = line-same (menu_of book) (menu_of (with_bids book j bids)) (net_of book) (net_of (with_bids book j bids)) book.supply k line
      (right-after k low) e

  -- nor do they in a line of those up to k
  left-after : (k n : ℕ) → n ≡ length book.bidders → k < j → j ≤ n
      → AreSameAfter (in_order true (menu_of book)) (in_order true (menu_of (with_bids book j bids)))
      (worths_in_order true (length book.bidders) (net_of book)) (worths_in_order true (length (with_bids book j bids).bidders)
      (net_of (with_bids book j bids))) (n - k)
  left-after k n all low last =
      let m = length (with_bids book j bids).bidders in
      let same : suc m ≡ suc (length book.bidders) = ap suc bidders-same in
      let first : (i : ℕ) → i < length book.bidders → 0 < suc (length book.bidders) - suc i = λ i inside. omega (arith, inside) in
      let other : (i : ℕ) → n - k ≤ i → suc (length book.bidders) - suc i ≢ j = λ i from e. absurd (omega (arith, all, low, last, from, e)) in
      record {
        bidders = sym bidders-same;
        bids = λ i from inside. sym (ap (λ (x : ℕ). length (bids_of (with_bids book j bids) (x - suc i))) same
            ∙ count-other (suc (length book.bidders) - suc i) (first i inside) (other i from));
        lots = λ i h from inside. sym (ap (λ (x : ℕ). lots_of (with_bids book j bids) (x - suc i) h) same
            ∙ lots-other (suc (length book.bidders) - suc i) h (first i inside) (other i from));
        worths = λ i h from inside. sym (ap (λ (x : ℕ). net_of (with_bids book j bids) (x - suc i) h) same
            ∙ net-other (suc (length book.bidders) - suc i) h (first i inside) (other i from));
      }

  -- so the line of the bidders up to k stays, if k is before j
  pub left-stays : (k : ℕ) (line : List ℤ) → k < j → j ≤ length book.bidders → IsLeftLine book k line → IsLeftLine (with_bids book j bids) k line
  left-stays k line low last e =
      let new = with_bids book j bids in
      let turned = line-turned book k line (omega (arith, low, last)) e in
      let moved = line-same (in_order true (menu_of book)) (in_order true (menu_of new)) (worths_in_order true (length book.bidders) (net_of book))
      (worths_in_order true (length new.bidders) (net_of new)) book.supply (length book.bidders - k) line
      (left-after k (length book.bidders) refl low last) turned in
      let place : length book.bidders - k ≡ length new.bidders - k = ap (λ (x : ℕ). x - k) (sym bidders-same) in
      line-left new k line (omega (arith, low, last, bidders-same))
      (subst (λ (x : ℕ). IsLine (in_order true (menu_of new)) (worths_in_order true (length new.bidders) (net_of new)) book.supply x line) place moved)
