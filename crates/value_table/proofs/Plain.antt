-- The sizes of net amounts, and the table of a book's net amounts, which gives the winning choice.
use Rattle.std.specs.Prelude.{◌≡◌, ℕ, ◌-◌, ◌^◌, ◌≤◌, List, length, get_or, ℤ, pos, negsuc, ◌≤ℤ◌, unsigned_abs, refl, ◌==◌}
use Rattle.std.proofs.Common.{arith}
use Rattle.std.proofs.lemmas.Int.{ints}
use Rattle.std.proofs.lemmas.Bool.{cond_both}
use Rattle.auction_model.specs.Book.{Book, bids_of, market_of, menu_of, net_of}
use Rattle.auction_model.specs.Lowered.{lowered}
use Rattle.auction_model.specs.Market.{sum_after}
use Rattle.auction_model.specs.Menu.{fits_after}
use Rattle.auction_model.specs.Greatest.{IsFirstGreatest, IsWinning}
use Rattle.auction_model.proofs.PlainLaws.{IsFirstGreatest-same, fits-without_none, spread-plain, sum-plain}
use Rattle.bid_book.specs.Kept.{IsBidBook}
use Rattle.value_table.specs.BookTable.{menu_without, IsInRange}

pub size-from : (z : ℤ) (n : ℕ) → pos 0 ≤ℤ z → z ≤ℤ pos n → unsigned_abs z ≤ n
size-from (pos a) n h k = omega (arith, ints)
size-from (negsuc a) n h k = absurd (omega (arith, ints))

-- a net amount in a kept book is at most 2^42 in size
pub net-small : (book : Book) (j i : ℕ) → IsBidBook book → i ≤ length (bids_of book j) → unsigned_abs (net_of book j i) ≤ 2 ^ 42
net-small book j i kept known = size-from (net_of book j i) (2 ^ 42) (kept.not_negative j i known) (kept.most j i known)

-- no more bids count than the bidder has
pub bids-fewer : (book : Book) (skip j : ℕ) → (menu_without book skip).bids j ≤ length (bids_of book j)
bids-fewer book skip j = cond_both (j == skip) 0 (length (bids_of book j)) (λ n. n ≤ length (bids_of book j)) (λ _. omega arith) (λ _. omega arith)

-- over 1 and with no surplus, no lowered sum leaves the range
pub plain-range : (book : Book) (skip : ℕ) (surplus : List ℤ) → IsBidBook book → ((k : ℕ) → get_or surplus k (pos 0) ≡ pos 0)
    → IsInRange book skip (pos 1) surplus
plain-range book skip surplus kept zeros =
    let few : length book.bidders ≤ 16 = kept.bidders in
    let h : (j i : ℕ) → i ≤ (menu_without book skip).bids j → unsigned_abs (net_of book j i) ≤ 2 ^ 42 =
    λ j i low. let known : i ≤ length (bids_of book j) = omega (arith, bids-fewer book skip j) in net-small book j i kept known in
    omega (arith, few, spread-plain (menu_without book skip).bids (length book.bidders) (2 ^ 42) (net_of book) surplus h (λ j. zeros (j - 1)))

-- over 1, with no surplus and nobody left out, the first of the greatest choices is the winning one
pub plain-winning : (book : Book) (surplus : List ℤ) (c : List ℕ) → ((k : ℕ) → get_or surplus k (pos 0) ≡ pos 0)
    → IsFirstGreatest (fits_after (menu_without book 0) 0 book.supply) (sum_after (lowered (pos 1) (net_of book) surplus) 0) c → IsWinning (market_of book) c
plain-winning book surplus c zeros g =
    IsFirstGreatest-same (fits_after (menu_without book 0) 0 book.supply) (fits_after (menu_of book) 0 book.supply)
    (sum_after (lowered (pos 1) (net_of book) surplus) 0) (sum_after (net_of book) 0) c
    (λ d. fits-without_none (menu_of book) 0 book.supply d)
    (λ d. sum-plain (net_of book) surplus 0 d (λ j. refl) (λ j. zeros (j - 1)))
    g
