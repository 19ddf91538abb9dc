-- The book of a log: what is sold, the reserves, and for each bidder of the award its clock bids and its submitted list, the
-- greatest amount for each package.
use Rattle.std.specs.Prelude.{◌≡◌, ℕ, ◌≤◌, Bool, not, List, Some, ◌++◌, filter, map, length, Contains}
use Rattle.std.specs.List.{AllByRecursion}
use Rattle.auction_rules.specs.declared.Event.{Event}
use Rattle.auction_model.specs.Book.{Bidder, Book, BookBid}
use Rattle.auction_model.specs.PackageTests.{is_empty}
use Rattle.auction_rules.specs.Terms.{Terms, entrant}
use Rattle.auction_rules.specs.Rounds.{listing}
use Rattle.auction_rules.specs.Caps.{clock_bid, greatest}
use Rattle.auction_rules.specs.Lines.{in_order, priced}
use Rattle.auction_rules.specs.Replies.{Standing, is_closed, admitted, log_stage, standing}

abbrev pub bid_lots : BookBid → List ℕ
bid_lots b = b.lots

-- the packages of the bids that are not empty, in order, each with its greatest amount
abbrev pub best_bids : List BookBid → List BookBid
best_bids bids = priced (λ lots. Some (greatest lots bids)) (in_order (filter (λ lots. not (is_empty lots)) (map bid_lots bids)))

-- the clock bids of a bidder and the entries of its submitted list
abbrev pub pairs_of : Standing → List BookBid
pairs_of s = map clock_bid s.rounds ++ s.submitted

-- the bids of a bidder in the book
abbrev pub book_bids : Standing → List BookBid
book_bids s = best_bids (pairs_of s)

-- the bid is among the pairs, and none of them has a greater amount for its package
pub record IsGreatestFor (pairs : List BookBid) (b : BookBid) : Type 0 where
  pub there : Contains pairs b
  pub most : AllByRecursion (λ p. p.lots ≡ b.lots → p.amount ≤ b.amount) pairs

-- the bids of bidder j in the book of a log
abbrev pub bids_in_book : Terms → List Event → ℕ → List BookBid
bids_in_book terms log j = book_bids (standing terms (admitted terms log) j)

-- bidder j of a book, with these bids
abbrev pub book_bidder : Terms → (ℕ → List BookBid) → ℕ → Bidder
book_bidder terms bids j = record { name = (entrant terms j).name; bids = bids j }

-- the book of the award with these bids of each bidder; a bidder without bids is in it too
abbrev pub book_by : Terms → (ℕ → List BookBid) → Book
book_by terms bids = record { supply = terms.supply; reserves = terms.reserves; bidders = listing (book_bidder terms bids) (length terms.bidders) }

-- the book of a log
unfoldable pub book_of_log : Terms → List Event → Book
book_of_log terms log = book_by terms (bids_in_book terms log)

-- a log is complete when the sealed round is closed after it
abbrev pub is_complete : Terms → List Event → Bool
is_complete terms log = is_closed (log_stage terms log)
