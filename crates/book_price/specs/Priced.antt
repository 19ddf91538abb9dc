-- What pricing a book promises: the certificate of the prices, and the turns that led to them.
use Rattle.std.specs.List.{AllByRecursion}
use Rattle.auction_model.specs.Book.{Book, market_of}
use Rattle.auction_model.specs.Prices.{weight_of}
use Rattle.auction_model.specs.PricingRun.{IsPricingRun}
use Rattle.cert_soundness.specs.Priced.{IsPricedCert}
use Rattle.cert_soundness.specs.Sound.{cert_point}
use Rattle.cert_soundness.specs.Tests.{bidders_of, states}
use Rattle.cert_text.specs.CertValues.{cert_value, IsFor}
use Rattle.core_price.specs.Turns.{IsPointOfTurn, turns_of}
use Rattle.core_laws.specs.Turns.{IsLastPoint}
use Rattle.core_laws.specs.Weights.{FewWin}
use Rattle.std.specs.Prelude.{List, ℕ}
use Rattle.book_price.specs.Reduced.{IsReduced}
use Rattle.book_price.specs.declared.pricing.PricedBook.{PricedBook}

-- A certificate of this book that passes all tests, in lowest terms, of winners who can be priced by the weights, and the
-- pricing run of its choice, with points of small numbers, which ends at its payments.
pub record IsPricedBook (book : Book) (weights : List ℕ) (priced : PricedBook) : Type 0 where
  pub shape : IsFor (bidders_of book) (states book) priced.cert
  pub cert : IsPricedCert book (weight_of weights) (cert_value priced.cert)
  pub reduced : IsReduced (cert_value priced.cert)
  pub few : FewWin priced.cert.choice weights
  pub run : IsPricingRun (market_of book) (weight_of weights) priced.cert.choice (turns_of priced.cert.choice priced.turns)
  pub each_turn : AllByRecursion (IsPointOfTurn priced.cert.choice weights) priced.turns
  pub last_turn : IsLastPoint (turns_of priced.cert.choice priced.turns) (cert_point (cert_value priced.cert))
