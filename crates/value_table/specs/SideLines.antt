-- The lines of both sides of a book, one by one.
use Rattle.std.specs.Prelude.{◌≡◌, ℕ, ◌<◌, List, length, slice_index_or, ℤ, pos}
use Rattle.auction_model.specs.Book.{Book, menu_of, net_of}
use Rattle.auction_model.specs.Place.{left_at, states_of}
use Rattle.auction_model.specs.Table.{IsLine}
use Rattle.value_table.specs.SideValues.{IsLeftEntry}

-- line k of the exact table of the net amounts: at each place the greatest value of a choice of the bidders after k
abbrev pub IsRightLine : Book → ℕ → List ℤ → Type 0
IsRightLine book k line = IsLine (menu_of book) (net_of book) book.supply k line

-- at each place the greatest value of a choice of the bidders up to k
pub record IsLeftLine (book : Book) (k : ℕ) (line : List ℤ) : Type 0 where
  pub places : length line ≡ states_of book.supply
  pub exact : (s : ℕ) → s < states_of book.supply
      → IsLeftEntry book k (left_at book.supply s) (slice_index_or line s (pos 0))
