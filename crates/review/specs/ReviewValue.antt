-- What a review is: a book and its winning choice, and lines of both sides of the book.
use Rattle.std.specs.Prelude.{◌≡◌, ℕ, ◌+◌, ◌≤◌, List, [], length, map, slice_index_or, ℤ, Vec}
use Rattle.std.specs.Global.{Global}
use Rattle.auction_model.specs.Place.{states_of}
use Rattle.auction_model.specs.Book.{Book}
use Rattle.value_table.specs.SideLines.{IsLeftLine, IsRightLine}

pub record ReviewValue : Type 0 where
  pub book : Book
  pub choice : List ℕ

-- the lines of the code's vectors
abbrev pub lines_of : List (Vec ℤ Global) → List (List ℤ)
lines_of lines = map (λ l. l.items) lines

-- a line for each bidder and one more, each with a number for each place of the supply
pub record AreFull (book : Book) (lines : List (List ℤ)) : Type 0 where
  pub count : length lines ≡ length book.bidders + 1
  pub places : (k : ℕ) → k ≤ length book.bidders → length (slice_index_or lines k []) ≡ states_of book.supply

-- the lines from the one with number `from` on are for the bidders after each
pub record AreRightLines (book : Book) (from : ℕ) (lines : List (List ℤ)) : Type 0 where
  pub full : AreFull book lines
  pub exact : (k : ℕ) → from ≤ k → k ≤ length book.bidders → IsRightLine book k (slice_index_or lines k [])

-- the lines up to the one with number `to` are for the bidders up to each
pub record AreLeftLines (book : Book) (to : ℕ) (lines : List (List ℤ)) : Type 0 where
  pub full : AreFull book lines
  pub exact : (k : ℕ) → k ≤ to → k ≤ length book.bidders → IsLeftLine book k (slice_index_or lines k [])
