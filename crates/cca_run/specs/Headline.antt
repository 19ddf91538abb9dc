-- The headline: from the bytes of three files to the book of a log and the outcome of the auction.
use Rattle.std.specs.Prelude.{◌≡◌, ◌≤◌, ◌<◌, ◌&&◌, ℕ, IsTrue, Option, Some, None, List, length, map, not, reverse}
use Rattle.std.specs.List.{AllByRecursion}
use Rattle.auction_model.specs.Book.{Book, bidder_of, bids_of, market_of}
use Rattle.auction_model.specs.PackageTests.{InOrder, is_empty}
use Rattle.auction_model.specs.Greatest.{IsWinning}
use Rattle.core_laws.specs.Outcome.{IsAuctionOutcome}
use Rattle.auction_rules.specs.BookOfLog.{IsGreatestFor, bid_lots, book_of_log, is_complete, pairs_of}
use Rattle.auction_rules.specs.Replies.{admitted, has_entry, standing}
use Rattle.auction_rules.specs.Terms.{Terms, entrant}
use Rattle.auction_rules.specs.declared.Event.{Event}
use Rattle.award_file.specs.Reading.{reading, stated_terms}
use Rattle.log_file.specs.LogReading.{AreLog, log_records}
use Rattle.cert_grammar.specs.Certificate.{CertValue}
use Rattle.cert_grammar.specs.Says.{CertSays, cert_text}
use Rattle.cert_soundness.specs.Priced.{IsPricedCert}
use Rattle.cert_soundness.specs.Sound.{cert_point, cert_prices}
use Rattle.cert_soundness.specs.Tests as tests
use Rattle.line_format.specs.LineText.{stated}
use Rattle.auction_model.specs.Prices.{AreVickreyPrices, weight_of}
use Rattle.limits.specs.declared.TheConstants.{AWARD_BYTES, LOG_BYTES, MOST_WINNERS, PRICED_CERT_BYTES}
use Rattle.log_replay.specs.ReplyLines.{first_refusal}
use Rattle.core_laws.specs.Winners.{winners_in}
use Rattle.cca_cli.specs.declared.status.Status.{Status}
use Rattle.cca_cli.specs.declared.status.Status.TheVariants.{Done, Limit, Memory, No, ReadFault, Refused, Words, WriteFault}
use Rattle.cca_commands.specs.Gives.{IsYesText, ones}

-- the file of this name has bytes with this property
pub record FileHolds (file : List ℕ → Option (List ℕ)) (name : List ℕ) (says : List ℕ → Type 0) : Type 0 where
  pub bytes : List ℕ
  pub here : file name ≡ Some bytes
  pub said : says bytes

-- An auction on two files: the award states the terms, and the log the lines of a complete log on them, in their order.
pub record IsAuction (file : List ℕ → Option (List ℕ)) (award log : List ℕ) (terms : Terms) (lines : List Event) : Type 0 where
  pub award_states : FileHolds file award (λ bytes. reading bytes ≡ stated_terms terms)
  pub log_states : FileHolds file log (λ bytes. AreLog terms (log_records bytes) lines)
  pub complete : IsTrue (is_complete terms (reverse lines))

-- the book of an auction: it contains exactly the bids that the activity rules admit, the greatest of each bidder for each
-- package
abbrev pub book_of : Terms → List Event → Book
book_of terms lines = book_of_log terms (reverse lines)

-- The book sells what the award sells, at its reserves, to its bidders by name. Of each bidder it has one bid for each package that isn't empty
-- and is among its admitted clock bids or in its last admitted list, and for no other. The amount of each bid is there for its package, and is
-- the greatest that is.
pub record HoldsAdmittedBids (terms : Terms) (lines : List Event) (book : Book) : Type 0 where
  pub supply : book.supply ≡ terms.supply
  pub reserves : book.reserves ≡ terms.reserves
  pub bidders : length book.bidders ≡ length terms.bidders
  pub names : (j : ℕ) → 1 ≤ j → j ≤ length terms.bidders → (bidder_of book j).name ≡ (entrant terms j).name
  pub once : (j : ℕ) → 1 ≤ j → j ≤ length terms.bidders → InOrder (map bid_lots (bids_of book j))
  pub packages : (j : ℕ) → 1 ≤ j → j ≤ length terms.bidders → (lots : List ℕ) → has_entry lots (bids_of book j)
      ≡ (not (is_empty lots) && has_entry lots (pairs_of (standing terms (admitted terms (reverse lines)) j)))
  pub amounts : (j : ℕ) → 1 ≤ j → j ≤ length terms.bidders
      → AllByRecursion (IsGreatestFor (pairs_of (standing terms (admitted terms (reverse lines)) j))) (bids_of book j)

-- Whenever `audit` accepts: the award and the log state an auction. The certificate is one of the book, which contains exactly
-- the bids that the rules admit. Its winners are the book's first feasible choice of greatest net value, no coalition blocks
-- its prices, their sum is least in the core, and every other core point of this sum is farther from the Vickrey point. What
-- was printed is `yes` and this outcome, with the Vickrey prices.
pub record IsAudited (file : List ℕ → Option (List ℕ)) (award log cert printed : List ℕ) : Type 0 where
  pub terms : Terms
  pub lines : List Event
  pub auction : IsAuction file award log terms lines
  pub bids : HoldsAdmittedBids terms lines (book_of terms lines)
  pub certificate : CertValue
  pub cert_states : FileHolds file cert (λ bytes. CertSays (tests.bidders_of (book_of terms lines)) (tests.states (book_of terms lines)) bytes (stated certificate))
  pub outcome : IsAuctionOutcome (market_of (book_of terms lines)) certificate.choice (cert_point certificate)
  pub vickrey : AreVickreyPrices (market_of (book_of terms lines)) certificate.choice (cert_prices (book_of terms lines) certificate)
  pub yes : IsYesText (book_of terms lines) certificate printed

-- Whenever `award` is done: the award and the log state an auction, and the text that was appended is a certificate of its book
-- that passes all tests, and its winners and prices are the outcome of the auction. It is shorter than a certificate may be.
pub record IsAwarded (file : List ℕ → Option (List ℕ)) (award log text : List ℕ) : Type 0 where
  pub terms : Terms
  pub lines : List Event
  pub auction : IsAuction file award log terms lines
  pub bids : HoldsAdmittedBids terms lines (book_of terms lines)
  pub certificate : CertValue
  pub priced : IsPricedCert (book_of terms lines) (weight_of (ones (book_of terms lines))) certificate
  pub outcome : IsAuctionOutcome (market_of (book_of terms lines)) certificate.choice (cert_point certificate)
  pub whole : text ≡ cert_text certificate
  pub short : length text < PRICED_CERT_BYTES

-- An auction within the limits: the award and the log state an auction, neither file is too long, no close is refused for a limit, and no
-- more win than can be priced.
pub record CanBeAwarded (file : List ℕ → Option (List ℕ)) (award log : List ℕ) : Type 0 where
  pub terms : Terms
  pub lines : List Event
  pub auction : IsAuction file award log terms lines
  pub short_award : FileHolds file award (λ bytes. length bytes ≤ AWARD_BYTES)
  pub short_log : FileHolds file log (λ bytes. length bytes ≤ LOG_BYTES)
  pub never_limited : first_refusal terms (reverse lines) ≡ None
  pub few : (winners : List ℕ) → IsWinning (market_of (book_of terms lines)) winners → winners_in winners ≤ MOST_WINNERS

-- done, or stopped by a limit
abbrev pub IsDoneOrLimited : Status → Type 0
IsDoneOrLimited Done = Unit {0}
IsDoneOrLimited (No kind test place) = ⊥
IsDoneOrLimited Words = ⊥
IsDoneOrLimited (Refused file place entry) = ⊥
IsDoneOrLimited (ReadFault file) = ⊥
IsDoneOrLimited (WriteFault file) = ⊥
IsDoneOrLimited Memory = ⊥
IsDoneOrLimited (Limit which count) = Unit {0}
