-- What pricing finds of a book, and the certificate that is made of it: words of private contracts.
use Rattle.std.specs.Prelude.{List, ℕ}
use Rattle.auction_model.specs.Book.{Book, market_of}
use Rattle.auction_model.specs.Greatest.{IsWinning}
use Rattle.auction_model.specs.Market.{value_of}
use Rattle.auction_model.specs.Prices.{AreWeights}
use Rattle.cert_grammar.specs.Certificate.{CertValue}
use Rattle.cert_soundness.specs.Tests.{bidders_of}
use Rattle.choices.specs.Singles.{AreSingles, winners_after}
use Rattle.core_price.specs.Priced.{IsPriced}
use Rattle.core_laws.specs.Weights.{FewWin}
use Rattle.core_price.specs.declared.priced.Priced.{Priced}
use Rattle.core_laws.specs.Surplus.{surpluses_of}
use Rattle.core_laws.specs.Winners.{for_bidders}
use Rattle.value_table.specs.TableValue.{IsLoweredTable, IsPlain, IsTableOf, TableValue}
use Rattle.vickrey.specs.VickreyValue.{AreTablesWithout, VickreyValue}
use Rattle.book_price.specs.Made.{cert_made}

-- the winning choice z with the table of all bids, the single winners, and the prices by the weights
pub record AreFound (book : Book) (z : List ℕ) (whole : TableValue) (alone : VickreyValue) (weights : List ℕ) (priced : Priced TableValue) : Type 0 where
  pub winning : IsWinning (market_of book) z
  pub table : IsTableOf book whole
  pub plain : IsPlain whole
  pub singles : AreSingles (market_of book) z alone.singles
  pub tables : AreTablesWithout book (winners_after 0 z) alone.tables
  pub few : FewWin z weights
  pub weighing : AreWeights (bidders_of book) weights
  pub priced_is : IsPriced (market_of book) z weights alone.singles priced
  pub lowered : IsLoweredTable book priced.den (surpluses_of (market_of book) z priced.den (for_bidders z priced.at)) priced.last.table

-- the certificate of all this
abbrev pub cert_found : Book → List ℕ → TableValue → VickreyValue → Priced TableValue → CertValue
cert_found book z whole alone priced =
    cert_made z (value_of (market_of book) z) whole.lines alone.singles alone.tables priced.den priced.at priced.rows priced.last.table.lines
