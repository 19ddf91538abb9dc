-- The book of an auction holds the bids that the rules admit.
use Rattle.std.proofs.Common.{◌≡◌, ◌∙◌, ℕ, ◌≤◌, List, ap, length, map, refl, reverse, subst, sym}
use Rattle.std.specs.Prelude.{◌&&◌, not}
use Rattle.std.specs.List.{AllByRecursion}
use Rattle.auction_model.specs.Book.{Bidder, BookBid, bidder_of, bids_of}
use Rattle.auction_model.specs.PackageTests.{InOrder, is_empty}
use Rattle.auction_rules.specs.BookOfLog.{IsGreatestFor, bid_lots, bids_in_book, book_bidder, book_of_log, pairs_of}
use Rattle.auction_rules.specs.Replies.{admitted, has_entry, standing}
use Rattle.auction_rules.specs.Terms.{Terms}
use Rattle.auction_rules.specs.declared.Event.{Event}
use Rattle.cca_run.specs.Headline.{HoldsAdmittedBids, book_of}

supply-of : (terms : Terms) (log : List Event) → (book_of_log terms log).supply ≡ terms.supply
unfolding book_of_log
supply-of terms log = refl

reserves-of : (terms : Terms) (log : List Event) → (book_of_log terms log).reserves ≡ terms.reserves
unfolding book_of_log
reserves-of terms log = refl

-- by what the rules say of each bidder
pub admitted-bids : ((terms : Terms) (log : List Event) → length (book_of_log terms log).bidders ≡ length terms.bidders)
    → ((terms : Terms) (log : List Event) (j : ℕ) → 1 ≤ j → j ≤ length terms.bidders → bidder_of (book_of_log terms log) j ≡ book_bidder terms
    (bids_in_book terms log) j)
    → ((terms : Terms) (log : List Event) (j : ℕ) (lots : List ℕ) → has_entry lots (bids_in_book terms log j) ≡
    (not (is_empty lots) && has_entry lots (pairs_of (standing terms (admitted terms log) j))))
    → ((terms : Terms) (log : List Event) (j : ℕ) → AllByRecursion (IsGreatestFor (pairs_of (standing terms (admitted terms log) j)))
    (bids_in_book terms log j))
    → ((terms : Terms) (log : List Event) (j : ℕ) → InOrder (map bid_lots (bids_in_book terms log j)))
    → (terms : Terms) (lines : List Event) → HoldsAdmittedBids terms lines (book_of terms lines)
admitted-bids count each packages amounts order terms lines = record {
  supply = supply-of terms (reverse lines);
  reserves = reserves-of terms (reverse lines);
  bidders = count terms (reverse lines);
  names = λ j some within. ap (λ (b : Bidder). b.name) (each terms (reverse lines) j some within);
  once = λ j some within. subst (λ (b : List BookBid). InOrder (map bid_lots b)) (sym (bids j some within)) (order terms (reverse lines) j);
  packages = λ j some within lots. ap (has_entry lots) (bids j some within) ∙ packages terms (reverse lines) j lots;
  amounts = λ j some within.
      subst (AllByRecursion (IsGreatestFor (pairs_of (standing terms (admitted terms (reverse lines)) j)))) (sym (bids j some within))
      (amounts terms (reverse lines) j);
}
  where
    bids : (j : ℕ) → 1 ≤ j → j ≤ length terms.bidders → bids_of (book_of terms lines) j ≡ bids_in_book terms (reverse lines) j
    bids j some within = ap (λ (b : Bidder). b.bids) (each terms (reverse lines) j some within)
