-- What lowered bids count, and its lines and tables: words of private contracts.
use Rattle.std.specs.Prelude.{◌≡◌, ℕ, ◌≤◌, ◌<◌, ◌^◌, false, IsTrue, List, length, slice_index_or, ℤ, pos, ◌≤ℤ◌, unsigned_abs}
use Rattle.auction_model.specs.Book.{Book, menu_of, net_of}
use Rattle.auction_model.specs.Lowered.{lowered, spread}
use Rattle.auction_model.specs.Menu.{Menu, without}
use Rattle.auction_model.specs.Package.{is_within}
use Rattle.auction_model.specs.Table.{AreLinesTo, IsExactTable, IsLine}
use Rattle.value_table.specs.Turned.{bidder_at, in_order, worths_in_order}
use Rattle.value_table.specs.declared.lowered_bids.LoweredBids.{LoweredBids}

-- the lowered bids of a book with its bidders in order: who has no bids, and what the others' bids count
pub record AreLoweredBids (of : Book) (but : ℕ) (by_den : ℤ) (by : List ℤ) (l : LoweredBids) : Type 0 where
  pub book : l.book.now ≡ of
  pub turned : l.turned ≡ false
  pub skip : l.skip ≡ but
  pub den : l.den ≡ by_den
  pub surplus : l.surplus.now ≡ by

-- which bidder of the book has number j
abbrev pub seat : LoweredBids → ℕ → ℕ
seat l j = bidder_at l.turned (length l.book.now.bidders) j

-- the bids that count
abbrev pub counted_bids : LoweredBids → Menu
counted_bids l = without (in_order l.turned (menu_of l.book.now)) l.skip

-- the net amount of each, by the number of its bidder and its own
abbrev pub net_at : LoweredBids → ℕ → ℕ → ℤ
net_at l = worths_in_order l.turned (length l.book.now.bidders) (net_of l.book.now)

-- what each counts
abbrev pub counted : LoweredBids → ℕ → ℕ → ℤ
counted l = lowered l.den (net_at l) l.surplus.now

abbrev pub IsCountedLine : LoweredBids → ℕ → List ℤ → Type 0
IsCountedLine l k line = IsLine (counted_bids l) (counted l) l.book.now.supply k line

abbrev pub AreCountedLines : LoweredBids → ℕ → ℕ → List (List ℤ) → Type 0
AreCountedLines l last k lines = AreLinesTo (counted_bids l) (counted l) l.book.now.supply last k lines

abbrev pub IsCountedTable : LoweredBids → List (List ℤ) → Type 0
IsCountedTable l table = IsExactTable (counted_bids l) (counted l) l.book.now.supply table

-- the table of all bids, with nobody left out
abbrev pub IsWholeTable : LoweredBids → List (List ℤ) → Type 0
IsWholeTable l table = IsExactTable (without (in_order l.turned (menu_of l.book.now)) 0) (counted l) l.book.now.supply table

-- an earlier number of bidder j, or none, takes no more than its bid i and counts at least as much
pub record IsBeaten (m : Menu) (counts : ℕ → ℕ → ℤ) (j i : ℕ) : Type 0 where
  pub other : ℕ
  pub earlier : other < i
  pub smaller : IsTrue (is_within (m.lots j other) (m.lots j i))
  pub worth : counts j i ≤ℤ counts j other

-- so bid i of bidder j changes no entry
abbrev pub IsNeedless : LoweredBids → ℕ → ℕ → Type 0
IsNeedless l j i = IsBeaten (counted_bids l) (counted l) j i

-- each sum is below this number in size
abbrev pub IsWithin : LoweredBids → ℕ → Type 0
IsWithin l most = spread (counted_bids l).bids (length l.book.now.bidders) (net_at l) l.den l.surplus.now < most

-- no sum leaves 62 bits
abbrev pub IsNarrow : LoweredBids → Type 0
IsNarrow l = IsWithin l (2 ^ 61)

-- line j and what bidder j counts are at most this in size, so that a sum of both is at most twice as large
pub record IsLineWithin (l : LoweredBids) (most j : ℕ) (line : List ℤ) : Type 0 where
  pub numbers : (s : ℕ) → unsigned_abs (slice_index_or line s (pos 0)) ≤ most
  pub worths : (i : ℕ) → i ≤ (counted_bids l).bids j → unsigned_abs (counted l j i) ≤ most
