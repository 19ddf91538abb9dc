-- What a certificate that pricing writes is.
use Rattle.std.specs.Prelude.{ℕ, ◌<◌, ◌≤◌, IsTrue}
use Rattle.auction_model.specs.Book.{Book, market_of, menu_of, net_of}
use Rattle.auction_model.specs.Greatest.{IsFirstGreatest, IsWinning}
use Rattle.auction_model.specs.Lowered.{lowered}
use Rattle.auction_model.specs.Market.{uses, value_of}
use Rattle.auction_model.specs.Menu.{without}
use Rattle.auction_model.specs.Prices.{IsCoreOutcome, allowed_without}
use Rattle.auction_model.specs.Table.{IsExactTable}
use Rattle.core_laws.specs.Surplus.{surpluses_of}
use Rattle.cert_grammar.specs.Certificate.{CertValue, WithoutValue, part_of}
use Rattle.cert_soundness.specs.Sound.{cert_point}
use Rattle.cert_soundness.specs.Tests.{Holds, bidders_of}

-- the first of the greatest choices that don't use winner j, and the exact table without its bids
pub record IsBestPart (book : Book) (j : ℕ) (part : WithoutValue) : Type 0 where
  pub choice : IsFirstGreatest (allowed_without (market_of book) j) (value_of (market_of book)) part.choice
  pub table : IsExactTable (without (menu_of book) j) (net_of book) book.supply part.table

-- All tests pass. Also the choices are the first of the greatest and the tables are exact. The last table is for the worths
-- lowered by the surpluses at the payments, and for the idle worths.
pub record IsPricedCert (book : Book) (w : ℕ → ℕ) (c : CertValue) : Type 0 where
  pub holds : Holds book w c
  pub winning : IsWinning (market_of book) c.choice
  pub table : IsExactTable (menu_of book) (net_of book) book.supply c.table
  pub parts : (j : ℕ) → 0 < j → j ≤ bidders_of book → IsTrue (uses c.choice j)
      → IsBestPart book j (part_of c.withouts j)
  pub outcome : IsCoreOutcome (market_of book) w c.choice (cert_point c)
  pub table_lowered : IsExactTable (menu_of book) (lowered c.den (net_of book) (surpluses_of (market_of book) c.choice c.den c.pay)) book.supply c.lowered
