-- Lowered bids with the bidders in order count what the tables of its book do.
use Rattle.std.specs.Prelude.{◌≡◌, ℕ, ◌-◌, List, get_or, ℤ, pos, refl}
use Rattle.auction_model.specs.Book.{Book, net_of}
use Rattle.auction_model.specs.Greatest.{IsFirstGreatest}
use Rattle.auction_model.specs.Lowered.{lowered}
use Rattle.auction_model.specs.Market.{sum_after}
use Rattle.auction_model.specs.Menu.{fits_after}
use Rattle.auction_model.specs.Table.{IsEntry}
use Rattle.value_table.specs.BookTable.{IsBookTable, menu_without}
use Rattle.value_table.specs.Counted.{IsCountedTable, AreLoweredBids, IsWholeTable, counted, counted_bids}
use Rattle.value_table.specs.declared.lowered_bids.LoweredBids.{LoweredBids}

module _ (book : Book) (skip : ℕ) (den : ℤ) (surplus : List ℤ) (l : LoweredBids) (is : AreLoweredBids book skip den surplus l) where
  -- tables of the book are its tables
  pub table-of : (lines : List (List ℤ)) → IsBookTable book skip den surplus lines → IsCountedTable l lines
  table-of lines h = rw (is.book, is.turned, is.skip, is.den, is.surplus) h

  -- and the other way round
  pub table-from : (lines : List (List ℤ)) → IsCountedTable l lines → IsBookTable book skip den surplus lines
  table-from lines h = rw (is.book, is.turned, is.skip, is.den, is.surplus) at h

  -- the same of tables of all bids
  pub whole-of : (lines : List (List ℤ)) → IsBookTable book 0 den surplus lines → IsWholeTable l lines
  whole-of lines h = rw (is.book, is.turned, is.den, is.surplus) h

  -- the first of its greatest choices is that of the book
  pub first-from : (c : List ℕ) → IsFirstGreatest (fits_after (counted_bids l) 0 l.book.now.supply) (sum_after (counted l) 0) c
      → IsFirstGreatest (fits_after (menu_without book skip) 0 book.supply) (sum_after (lowered den (net_of book) surplus) 0) c
  first-from c h = rw (is.book, is.turned, is.skip, is.den, is.surplus) at h

  -- the greatest sum is that of the book
  pub entry-from : (most : ℤ) → IsEntry (counted_bids l) (counted l) 0 l.book.now.supply most
      → IsEntry (menu_without book skip) (lowered den (net_of book) surplus) 0 book.supply most
  entry-from most h = rw (is.book, is.turned, is.skip, is.den, is.surplus) at h

  -- with no surplus the bidder left out counts nothing
  pub idle-zero : ((k : ℕ) → get_or surplus k (pos 0) ≡ pos 0) → counted l l.skip 0 ≡ pos 0
  idle-zero zeros = rw (is.surplus, is.skip, zeros (skip - 1)) refl
