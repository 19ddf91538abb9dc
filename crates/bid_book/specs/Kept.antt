-- What each book of the program keeps.
use Rattle.std.specs.Prelude.{◌≡◌, ℕ, suc, ◌≤◌, ◌<◌, IsTrue, length, pos, ◌≤ℤ◌}
use Rattle.auction_model.specs.Book.{Book, bids_of, lots_of, net_of}
use Rattle.auction_model.specs.Package.{is_within}
use Rattle.book_grammar.specs.BookLines.{IsBookWithinLimits}
use Rattle.limits.specs.declared.TheConstants.{MOST_AMOUNT, MOST_BIDDERS, MOST_BIDS}
use Rattle.lots.specs.Limits.{IsSupply}

pub record IsBidBook (book : Book) : Type 0 where
  -- it has a text, and nothing in it exceeds a limit; the rest follows
  pub rules : IsBookWithinLimits book
  pub supply : IsSupply book.supply
  pub reserves : length book.reserves ≡ length book.supply
  pub bidders : length book.bidders ≤ MOST_BIDDERS
  pub bids : (j : ℕ) → length (bids_of book j) ≤ MOST_BIDS
  pub categories : (j i : ℕ) → i < length (bids_of book j) → length (lots_of book j (suc i)) ≡ length book.supply
  pub within : (j i : ℕ) → i < length (bids_of book j) → IsTrue (is_within (lots_of book j (suc i)) book.supply)
  pub not_negative : (j i : ℕ) → i ≤ length (bids_of book j) → pos 0 ≤ℤ net_of book j i
  pub most : (j i : ℕ) → i ≤ length (bids_of book j) → net_of book j i ≤ℤ pos MOST_AMOUNT
