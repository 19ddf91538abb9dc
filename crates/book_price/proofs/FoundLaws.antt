-- What pricing a book by its chooser finds is what it finds of the book.
use Rattle.std.specs.Prelude.{◌≡◌, List, ℕ}
use Rattle.auction_model.specs.Book.{Book, market_of}
use Rattle.auction_model.specs.Greatest.{IsWinning}
use Rattle.auction_model.specs.Prices.{AreWeights}
use Rattle.cert_soundness.specs.Tests.{bidders_of}
use Rattle.choices.specs.Singles.{AreSingles, winners_after}
use Rattle.choices.specs.declared.chooser.Single.{Single}
use Rattle.core_price.specs.Priced.{IsPriced}
use Rattle.core_laws.specs.Weights.{FewWin}
use Rattle.core_price.specs.declared.priced.Priced.{Priced}
use Rattle.core_laws.specs.Surplus.{surpluses_of}
use Rattle.core_laws.specs.Winners.{for_bidders}
use Rattle.value_table.specs.TableValue.{IsLoweredTable, IsPlain, IsTableOf, TableValue}
use Rattle.vickrey.specs.VickreyValue.{AreTablesWithout, VickreyValue}
use Rattle.book_price.specs.Found.{AreFound}

-- the chooser's book and choice are those that are priced
pub found-by : (book own : Book) (z chosen : List ℕ) (whole : TableValue) (alone : VickreyValue) (weights : List ℕ) (singles : List Single)
    (priced : Priced TableValue)
    → own ≡ book → chosen ≡ z → singles ≡ alone.singles
    → IsWinning (market_of book) z → IsTableOf book whole → IsPlain whole → AreSingles (market_of book) z alone.singles
    → AreTablesWithout book (winners_after 0 z) alone.tables
    → FewWin z weights → AreWeights (bidders_of book) weights → IsPriced (market_of own) chosen weights singles priced
    → IsLoweredTable own priced.den (surpluses_of (market_of own) chosen priced.den (for_bidders chosen priced.at)) priced.last.table
    → AreFound book z whole alone weights priced
found-by book own z chosen whole alone weights singles priced same_book same_choice same_singles winning table plain are_singles tables few weighing is
    lowered = record {
      winning = winning;
      table = table;
      plain = plain;
      singles = are_singles;
      tables = tables;
      few = few;
      weighing = weighing;
      priced_is = rw (same_book, same_choice, same_singles) at is;
      lowered = rw (same_book, same_choice) at lowered;
    }
