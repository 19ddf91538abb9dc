-- What the acceptance of each other checker means, and what it means that the commands which price and review are done, by the
-- bytes of the files. The headline is about `audit` and `award`.
use Rattle.std.specs.Prelude.{◌≡◌, ℕ, Option, List, length}
use Rattle.auction_model.specs.Book.{Book as BookValue, market_of}
use Rattle.auction_model.specs.Prices.{IsCoreOutcome, alike, weight_of}
use Rattle.book_grammar.specs.BookForm.{IsBook}
use Rattle.book_grammar.specs.BookLines.{book_lines}
use Rattle.cert_grammar.specs.Certificate.{CertValue}
use Rattle.cert_grammar.specs.PlaceCert.{PlaceCertValue}
use Rattle.cert_grammar.specs.Says.{CertSays, cert_text}
use Rattle.cert_soundness.specs.Priced.{IsPricedCert}
use Rattle.cert_soundness.specs.Sound.{IsSound, cert_point}
use Rattle.cert_soundness.specs.Tests as tests
use Rattle.core_laws.specs.Outcome.{IsAuctionOutcome}
use Rattle.edits_file.specs.EditsForm.{EditsSay, NamedEdit, edits_of}
use Rattle.line_format.specs.LineText.{Says, stated}
use Rattle.outcome.specs.ReviewText.{IsReviewText}
use Rattle.placement_cert.specs.PlaceSays.{PlaceCertSays, place_text}
use Rattle.placement_check.specs.PlacePriced.{IsPricedPlaceCert}
use Rattle.placement_check.specs.PlaceSound.{IsPlaceSound}
use Rattle.slot_places.specs.SlotForm.{IsSlotText, slot_lines}
use Rattle.slot_places.specs.Slots.{SlotList}
use Rattle.weights_file.specs.WeightsForm.{WeightsSay}
use Rattle.cca_commands.specs.Gives.{IsPlaceYes, IsYesText, ones}
use Rattle.cca_run.specs.Headline.{FileHolds}

-- the file of this name states the book
abbrev pub StatesBook : (List ℕ → Option (List ℕ)) → List ℕ → BookValue → Type 0
StatesBook file name book = FileHolds file name (λ bytes. Says IsBook book_lines bytes (stated book))

-- the file of this name states the slots of a band
abbrev pub StatesSlots : (List ℕ → Option (List ℕ)) → List ℕ → SlotList → Type 0
StatesSlots file name slots = FileHolds file name (λ bytes. Says IsSlotText slot_lines bytes (stated slots))

-- the file of this name states these weights of the bidders of the book
abbrev pub StatesWeights : (List ℕ → Option (List ℕ)) → List ℕ → BookValue → List ℕ → Type 0
StatesWeights file name book weights = FileHolds file name (λ bytes. WeightsSay book bytes (stated weights))

-- The book and the certificate are stated, and the certificate's choice, value, Vickrey prices and payments are right for these weights.
-- What was printed is `yes` and that outcome.
pub record IsAccepted (file : List ℕ → Option (List ℕ)) (book cert : List ℕ) (of : BookValue) (weights : List ℕ) (printed : List ℕ) : Type 0 where
  pub book_states : StatesBook file book of
  pub certificate : CertValue
  pub cert_states : FileHolds file cert (λ bytes. CertSays (tests.bidders_of of) (tests.states of) bytes (stated certificate))
  pub sound : IsSound of (weight_of weights) certificate
  pub yes : IsYesText of certificate printed

-- Whenever `check` accepts: the winners are the first feasible choice of greatest net value, no coalition blocks the payments, their sum is
-- least in the core, and every other core point of that sum lies farther from the Vickrey point.
pub record IsChecked (file : List ℕ → Option (List ℕ)) (book cert printed : List ℕ) : Type 0 where
  pub of : BookValue
  pub accepted : IsAccepted file book cert of (ones of) printed
  pub outcome : IsAuctionOutcome (market_of of) accepted.certificate.choice (cert_point accepted.certificate)

-- Whenever `weigh-check` accepts: the same by the weights that the file of weights states.
pub record IsWeighChecked (file : List ℕ → Option (List ℕ)) (book weights cert printed : List ℕ) : Type 0 where
  pub of : BookValue
  pub by : List ℕ
  pub weights_state : StatesWeights file weights of by
  pub accepted : IsAccepted file book cert of by printed

-- Whenever `place-check` accepts: the order places the choice, which is greatest, and the payments are its core outcome.
pub record IsPlaceChecked (file : List ℕ → Option (List ℕ)) (slots cert printed : List ℕ) : Type 0 where
  pub of : SlotList
  pub slots_state : StatesSlots file slots of
  pub certificate : PlaceCertValue
  pub cert_states : FileHolds file cert (λ bytes. PlaceCertSays (length of.bidders) bytes (stated certificate))
  pub sound : IsPlaceSound of certificate
  pub yes : IsPlaceYes of certificate printed

-- Whenever `price` is done: the appended text is a certificate of the book that passes all tests, and its winners and prices
-- are the outcome of the auction.
pub record IsPriced (file : List ℕ → Option (List ℕ)) (book text : List ℕ) : Type 0 where
  pub of : BookValue
  pub book_states : StatesBook file book of
  pub certificate : CertValue
  pub priced : IsPricedCert of (weight_of (ones of)) certificate
  pub outcome : IsAuctionOutcome (market_of of) certificate.choice (cert_point certificate)
  pub whole : text ≡ cert_text certificate

-- Whenever `weigh` is done: as for `price`, with the core outcome by the weights that the file of weights states.
pub record IsWeighed (file : List ℕ → Option (List ℕ)) (book weights text : List ℕ) : Type 0 where
  pub of : BookValue
  pub book_states : StatesBook file book of
  pub by : List ℕ
  pub weights_state : StatesWeights file weights of by
  pub certificate : CertValue
  pub priced : IsPricedCert of (weight_of by) certificate
  pub outcome : IsCoreOutcome (market_of of) (weight_of by) certificate.choice (cert_point certificate)
  pub whole : text ≡ cert_text certificate

-- Whenever `place` is done: the appended text is a certificate of a placement that passes all tests.
pub record IsPlaced (file : List ℕ → Option (List ℕ)) (slots text : List ℕ) : Type 0 where
  pub of : SlotList
  pub slots_state : StatesSlots file slots of
  pub certificate : PlaceCertValue
  pub priced : IsPricedPlaceCert of certificate
  pub whole : text ≡ place_text certificate

-- Whenever `review` is done: what was printed are the winners of the book, of the book after each edit, and after all of them.
pub record IsReviewed (file : List ℕ → Option (List ℕ)) (book edits printed : List ℕ) : Type 0 where
  pub of : BookValue
  pub book_states : StatesBook file book of
  pub named : List NamedEdit
  pub edits_state : FileHolds file edits (λ bytes. EditsSay (length of.supply) bytes (stated named))
  pub review : IsReviewText of (edits_of of named) printed
