-- What is kept for the single winners of a book.
use Rattle.std.specs.Prelude.{◌≡◌, ℕ, ◌<◌, List, [], length, replicate, slice_index, slice_index_or, ℤ, pos}
use Rattle.auction_model.specs.Book.{Book}
use Rattle.choices.specs.declared.chooser.Single.{Single}
use Rattle.value_table.specs.BookTable.{IsBookTable}

pub record VickreyValue : Type 0 where
  -- each winner, its Vickrey price, and the first of the greatest choices without it
  pub singles : List Single
  -- the table without each of them
  pub tables : List (List (List ℤ))

-- the exact table of the net amounts of all bidders but one
abbrev pub IsTableWithout : Book → ℕ → List (List ℤ) → Type 0
IsTableWithout book j lines = IsBookTable book j (pos 1) (replicate (length book.bidders) (pos 0)) lines

-- there is one table for each of these bidders, the one without it, in their order
pub record AreTablesWithout (book : Book) (bidders : List ℕ) (tables : List (List (List ℤ))) : Type 0 where
  pub count : length tables ≡ length bidders
  pub each : (i : ℕ) → i < length bidders → IsTableWithout book (slice_index bidders i) (slice_index_or tables i [])
