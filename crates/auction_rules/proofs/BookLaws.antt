-- The book of a log: its bidders, the order of their bids, and the book that a desk makes of its state.
use Rattle.std.proofs.Common.{◌≡◌, ℕ, zero, suc, ◌≤◌, List, [], ◌∷◌, ◌++◌, Some, refl, sym, ap, subst, arith, length, map}
use Rattle.std.specs.Prelude.{filter, not}
use Rattle.auction_model.specs.Book.{Bidder, Book, BookBid, bidder_of, no_bidder}
use Rattle.auction_rules.specs.declared.Event.{Event}
use Rattle.auction_model.specs.PackageTests.{InOrder, is_empty}
use Rattle.auction_rules.specs.Terms.{Terms, entrant}
use Rattle.auction_rules.specs.Caps.{clock_bid, greatest}
use Rattle.auction_rules.specs.Lines.{in_order, priced}
use Rattle.auction_rules.specs.Replies.{Standing, admitted, standing}
use Rattle.auction_rules.specs.State.{book_in, state_after, state_of, standing_in}
use Rattle.auction_rules.specs.BookOfLog.{bid_lots, best_bids, book_bids, bids_in_book, book_bidder, book_of_log}
use Rattle.auction_rules.proofs.Drafts.{InOrder-in_order}
use Rattle.auction_rules.proofs.States.{length-listing, at-bidder, listing-same, standing_in-state_after}

-- the packages that are priced are those of the bids
pub lots-priced : (amount : List ℕ → ℕ) (ps : List (List ℕ)) → map bid_lots (priced (λ p. Some (amount p)) ps) ≡ ps
lots-priced amount [] = refl
lots-priced amount (p ∷ ps) = ap (λ (rest : List (List ℕ)). p ∷ rest) (lots-priced amount ps)

-- the packages of the bids in a book are in order, each once
pub InOrder-best_bids : (bids : List BookBid) → InOrder (map bid_lots (best_bids bids))
InOrder-best_bids bids =
    let some : List (List ℕ) = filter (λ lots. not (is_empty lots)) (map bid_lots bids) in
    subst InOrder (sym (lots-priced (λ lots. greatest lots bids) (in_order some))) (InOrder-in_order some)

-- after any log a bidder's bids in the book are in the order of their packages, each package once
pub InOrder-bids_in_book : (terms : Terms) (log : List Event) (j : ℕ) → InOrder (map bid_lots (bids_in_book terms log j))
InOrder-bids_in_book terms log j =
    let s : Standing = standing terms (admitted terms log) j in
    InOrder-best_bids (map clock_bid s.rounds ++ s.submitted)

-- each bidder of the award is in the book
pub bidders-book_of_log : (terms : Terms) (log : List Event) → length (book_of_log terms log).bidders ≡ length terms.bidders
unfolding book_of_log
bidders-book_of_log terms log = length-listing (book_bidder terms (bids_in_book terms log)) (length terms.bidders)

-- bidder j of the award is in the book of a log at its place, with its name and its bids
pub bidder-book_of_log :
    (terms : Terms) (log : List Event) (j : ℕ) → 1 ≤ j → j ≤ length terms.bidders
    → bidder_of (book_of_log terms log) j ≡ book_bidder terms (bids_in_book terms log) j
unfolding book_of_log
bidder-book_of_log terms log zero low high = absurd (omega arith)
bidder-book_of_log terms log (suc k) low high = at-bidder (book_bidder terms (bids_in_book terms log)) (length terms.bidders) k no_bidder (omega arith)

standing_in-bidder :
    (terms : Terms) (lines : List Event) (j : ℕ) → 1 ≤ j → j ≤ length terms.bidders
    → standing_in (state_after terms lines) j ≡ standing terms lines j
standing_in-bidder terms lines zero low high = absurd (omega arith)
standing_in-bidder terms lines (suc k) low high = standing_in-state_after terms lines k (omega arith)

abbrev book_with : Terms → List Bidder → Book
book_with terms bidders = record { supply = terms.supply; reserves = terms.reserves; bidders = bidders }

abbrev bidder_with : Terms → ℕ → List BookBid → Bidder
bidder_with terms j bids = record { name = (entrant terms j).name; bids = bids }

-- a desk that stands for a log makes the book of the log
pub book_in-state_of : (terms : Terms) (log : List Event) → book_in (state_of terms log) ≡ book_of_log terms log
unfolding state_of book_of_log
book_in-state_of terms log =
    let lines : List Event = admitted terms log in
    ap (λ (bidders : List Bidder). book_with terms bidders)
    (listing-same (book_bidder terms (λ j. book_bids (standing_in (state_after terms lines) j))) (book_bidder terms (bids_in_book terms log))
    (length terms.bidders)
    (λ j low high. ap (λ (s : Standing). bidder_with terms j (book_bids s)) (standing_in-bidder terms lines j low high)))
