-- What each command gives, by the bytes of its inputs.
use Rattle.std.specs.Fmt.{decimal}
use Rattle.std.specs.Prelude.{◌≡◌, ◌⊎◌, ℕ, ℤ, suc, Bool, true, false, Option, Some, None, Result, Ok, Err, List, [], ◌∷◌, ◌++◌, codes, length, replicate, reverse}
use Rattle.line_format.specs.LineText.{Says, stated}
use Rattle.auction_model.specs.Greatest.{IsWinning}
use Rattle.auction_model.specs.Book.{Book as BookValue, market_of}
use Rattle.auction_model.specs.Prices.{Point, alike, weight_of}
use Rattle.auction_model.specs.PricingRun.{BidderTurn, IsPricingRun}
use Rattle.auction_rules.specs.Terms.{Terms}
use Rattle.auction_rules.specs.declared.Event.{Event}
use Rattle.book_grammar.specs.BookForm.{IsBook}
use Rattle.book_grammar.specs.BookLines.{book_lines}
use Rattle.log_replay.specs.ReplyLines.{end_of, reply_lines}
use Rattle.log_replay.specs.declared.results.ReplayStop.{ReplayStop}
use Rattle.log_replay.specs.declared.results.ReplayStop.TheVariants as replay
use Rattle.print_grammar.specs.WinText.{win_text}
use Rattle.big_auction.specs.AwardText.{made_award_text}
use Rattle.big_auction.specs.LogText.{log_text}
use Rattle.big_auction.specs.MadeAward.{made_bidders}
use Rattle.big_auction.specs.MadeLog.{made_log}
use Rattle.cert_grammar.specs.Certificate.{CertValue}
use Rattle.cert_grammar.specs.CertText.{IsCertificate}
use Rattle.cert_grammar.specs.Says.{cert_text}
use Rattle.cert_soundness.specs.Priced.{IsPricedCert}
use Rattle.cert_soundness.specs.Sound.{IsSound, cert_point, cert_prices}
use Rattle.cert_soundness.specs.Tests.{FailsFirst, Holds, bidders_of, states}
use Rattle.core_laws.specs.Weights.{FewWin, ManyWin}
use Rattle.limits.specs.declared.LimitKind.TheVariants.{Winners}
use Rattle.limits.specs.declared.LimitKind.TheVariants as limit_kind
use Rattle.limits.specs.declared.TheConstants.{AWARD_BYTES, BOOK_BYTES, CERT_BYTES, EDITS_BYTES, LOG_BYTES, SLOTS_BYTES, WEIGHTS_BYTES}
use Rattle.print_grammar.specs.Json.{IsOutcomeJson}
use Rattle.print_grammar.specs.Prices.{IsPriceText}
use Rattle.print_grammar.specs.Turns.{AreTurnLines}
use Rattle.core_laws.specs.Turns.{IsLastPoint}
use Rattle.cert_grammar.specs.PlaceCert.{PlaceCertValue}
use Rattle.placement_cert.specs.PlaceSays.{place_text}
use Rattle.placement_cert.specs.PlaceText.{IsPlaceCertificate}
use Rattle.placement_check.specs.PlacePriced.{IsPricedPlaceCert}
use Rattle.placement_check.specs.PlaceSound.{IsPlaceSound}
use Rattle.cert_soundness.specs.MarketPrices.{prices_in}
use Rattle.placement_check.specs.PlaceTests as places
use Rattle.place_price.specs.PlaceText.{IsPlaceText}
use Rattle.review.specs.declared.edit.Edit.{Edit}
use Rattle.outcome.specs.ReviewText.{IsReviewText}
use Rattle.slot_places.specs.Board as board
use Rattle.slot_places.specs.Slots.{SlotList}
use Rattle.core_laws.specs.Winners.{winners_in}
use Rattle.cca_cli.specs.Answers.{AwardAnswers, BookAnswers, CertAnswers, EditsAnswers, LogAnswers, PlaceCertAnswers, SlotsAnswers, WeightsAnswers}
use Rattle.cca_cli.specs.Command.{CommandValue, command_of, contents_of}
use Rattle.cca_cli.specs.declared.kind.Kind.{Kind}
use Rattle.cca_cli.specs.declared.kind.Kind.TheVariants as commands
use Rattle.cca_cli.specs.Outcome.{InputGives, Outcome, done, stopped, stopped_after}
use Rattle.cca_cli.specs.declared.file_text.FileText.{FileText}
use Rattle.cca_cli.specs.declared.price_form.PriceForm.{PriceForm}
use Rattle.cca_cli.specs.declared.status.CertKind.TheVariants as certs
use Rattle.cca_cli.specs.declared.status.FileKind.{FileKind}
use Rattle.cca_cli.specs.declared.status.FileKind.TheVariants.{Award, Log, Cert, Weights, Slots, Edits}
use Rattle.cca_cli.specs.declared.status.FileKind.TheVariants as file_kind
use Rattle.cca_cli.specs.declared.status.Status.{Status}
use Rattle.cca_cli.specs.declared.status.Status.TheVariants.{No, Words, Refused, Limit}

-- each bidder of the book weighs 1
abbrev pub ones : BookValue → List ℕ
ones book = replicate (bidders_of book) 1

-- the lines of the winners, and nothing is appended
abbrev pub WinGives : BookValue → Outcome → Type 0
WinGives book outcome = (z : List ℕ) × IsWinning (market_of book) z × (outcome ≡ done (win_text book z) [])

-- the lines of the turns, if they are asked for
abbrev pub AreRounds : Bool → List ℕ → List BidderTurn → List ℕ → Type 0
AreRounds true z turns text = AreTurnLines z 0 turns text
AreRounds false z turns text = text ≡ []

-- The prices p of the winners of z as lines, with the lines of the turns first if they are asked for. v are the Vickrey prices.
pub record ArePriceLines (rounds : Bool) (book : BookValue) (z : List ℕ) (v : ℕ → ℤ) (p : Point) (turns : List BidderTurn) (text : List ℕ) : Type 0 where
  pub lines : List ℕ
  pub are_rounds : AreRounds rounds z turns lines
  pub prices : List ℕ
  pub are_prices : IsPriceText book z v p prices
  pub whole : text ≡ lines ++ prices

-- the turns, if they are asked for
abbrev pub turns_asked : Bool → List BidderTurn → Option (List BidderTurn)
turns_asked true turns = Some turns
turns_asked false turns = None

-- the prices as one line of JSON, with the turns if they are asked for
abbrev pub IsPriceJson : Bool → BookValue → List ℕ → (ℕ → ℤ) → Point → List BidderTurn → List ℕ → Type 0
IsPriceJson rounds book z v p turns text = IsOutcomeJson book z v p (turns_asked rounds turns) text

-- as JSON if it is asked for, else as lines
abbrev pub IsPrinted : Bool → Bool → BookValue → List ℕ → (ℕ → ℤ) → Point → List BidderTurn → List ℕ → Type 0
IsPrinted true rounds book z v p turns text = IsPriceJson rounds book z v p turns text
IsPrinted false rounds book z v p turns text = ArePriceLines rounds book z v p turns text

-- the outcome that a certificate shows, and the turns that led to it, printed in the form that is asked for
abbrev pub ArePrinted : PriceForm → BookValue → CertValue → List BidderTurn → List ℕ → Type 0
ArePrinted form book c turns text = IsPrinted form.json form.rounds book c.choice (cert_prices book c) (cert_point c) turns text

-- The result of pricing a book: a certificate of the core outcome that passes all tests, and a pricing run that ends at its
-- payments; both are printed in the form that is asked for.
pub record IsPricing (book : BookValue) (weights : List ℕ) (form : PriceForm) (c : CertValue) (text : List ℕ) : Type 0 where
  pub certificate : IsCertificate (bidders_of book) (states book) c
  pub priced : IsPricedCert book (weight_of weights) c
  pub few : FewWin c.choice weights
  pub turns : List BidderTurn
  pub run : IsPricingRun (market_of book) (weight_of weights) c.choice turns
  pub last : IsLastPoint turns (cert_point c)
  pub printed : ArePrinted form book c turns text

-- more winners than can be priced with the weights win
pub record HasTooMany (book : BookValue) (z weights : List ℕ) : Type 0 where
  pub winning : IsWinning (market_of book) z
  pub many : ManyWin z weights

-- a text that is appended to the certificate's file
abbrev pub cert_file : List ℕ → FileText
cert_file text = record { kind = Cert; text = text }

-- The prices are printed and their certificate is appended; more winners than can be priced are the limit of winners.
abbrev pub PriceGives : BookValue → List ℕ → PriceForm → Outcome → Type 0
PriceGives book weights form outcome =
    ((c : CertValue) × (text : List ℕ) × IsPricing book weights form c text
    × (outcome ≡ done text (cert_file (cert_text c) ∷ [])))
    ⊎ ((z : List ℕ) × HasTooMany book z weights × (outcome ≡ stopped (Limit Winners (winners_in z))))

-- the line `yes`, and the outcome that the certificate shows
abbrev pub IsYesText : BookValue → CertValue → List ℕ → Type 0
IsYesText book c text = (prices : List ℕ) × IsPriceText book c.choice (cert_prices book c) (cert_point c) prices
    × (text ≡ codes "yes\n" ++ prices)

-- A certificate that passes all tests gives yes and the outcome that it shows, and then its choice and its payments are the core outcome.
-- Else the first test that fails is reported, with its first place.
abbrev pub VerdictGives : BookValue → List ℕ → CertValue → Outcome → Type 0
VerdictGives book weights c outcome =
    (Holds book (weight_of weights) c × IsSound book (weight_of weights) c
    × ((text : List ℕ) × IsYesText book c text × (outcome ≡ done text [])))
    ⊎ ((test place : ℕ) × FailsFirst book (weight_of weights) c test place
    × (outcome ≡ stopped (No certs.Book test place)))

-- a text that is appended to the book's file
abbrev pub book_file : List ℕ → FileText
book_file text = record { kind = file_kind.Book; text = text }

-- The status of a log of that many records that leads to no book. For a log that isn't complete the place is after its last record.
abbrev pub replay_status : ℕ → ReplayStop → Status
replay_status records (replay.Rounds count) = Limit limit_kind.Rounds count
replay_status records (replay.Price count) = Limit limit_kind.Price count
replay_status records replay.Open = Refused Log (suc records) 0

-- What a log of that many records gives with these reply lines, by what it leads to: the lines are printed and the text of the book is
-- appended; or the lines are printed, and the line of the stop after them, and nothing is appended.
abbrev pub RepliesGive : ℕ → List ℕ → Result BookValue ReplayStop → Outcome → Type 0
RepliesGive records replies (Ok book) outcome = (text : List ℕ) × Says IsBook book_lines text (stated book)
    × (outcome ≡ done replies (book_file text ∷ []))
RepliesGive records replies (Err stop) outcome = outcome ≡ stopped_after replies (replay_status records stop)

-- what an auction gives, by its events in the order of the file
abbrev pub AuctionGives : Terms → List Event → Outcome → Type 0
AuctionGives terms events outcome = RepliesGive (length events) (reply_lines terms (reverse events)) (end_of terms (reverse events)) outcome

-- what follows for the book of a log of that many records, where it leads to one
abbrev pub EndGives : ℕ → Result BookValue ReplayStop → (BookValue → Outcome → Type 0) → Outcome → Type 0
EndGives records (Ok book) follows outcome = follows book outcome
EndGives records (Err stop) follows outcome = outcome ≡ stopped (replay_status records stop)

-- what an auction gives whose replies aren't told, where this follows for its book
abbrev pub BookOfLogGives : Terms → List Event → (BookValue → Outcome → Type 0) → Outcome → Type 0
BookOfLogGives terms events follows outcome = EndGives (length events) (end_of terms (reverse events)) follows outcome

-- what the award, and a log of an award, gives by its bytes, where this follows
abbrev pub AwardGives : Option (List ℕ) → (Terms → Outcome → Type 0) → Outcome → Type 0
AwardGives content follows outcome = InputGives Award AWARD_BYTES AwardAnswers content follows outcome

abbrev pub LogGives : Terms → Option (List ℕ) → (List Event → Outcome → Type 0) → Outcome → Type 0
LogGives terms content follows outcome = InputGives Log LOG_BYTES (LogAnswers terms) content follows outcome

-- what the book, and a certificate of a book, gives by its bytes, where this follows
abbrev pub BookGives : Option (List ℕ) → (BookValue → Outcome → Type 0) → Outcome → Type 0
BookGives content follows outcome = InputGives file_kind.Book BOOK_BYTES BookAnswers content follows outcome

abbrev pub CertGives : BookValue → Option (List ℕ) → (CertValue → Outcome → Type 0) → Outcome → Type 0
CertGives book content follows outcome = InputGives Cert CERT_BYTES (CertAnswers book) content follows outcome

-- what the weights of a book give by their bytes, where this follows
abbrev pub WeightsGive : BookValue → Option (List ℕ) → (List ℕ → Outcome → Type 0) → Outcome → Type 0
WeightsGive book content follows outcome = InputGives Weights WEIGHTS_BYTES (WeightsAnswers book) content follows outcome

-- the line of the auction that was made from a number: how many bidders it has, and how many lines its log
abbrev pub made_line : ℕ → ℕ → ℕ → List ℕ
made_line number bidders lines = codes "made " ++ decimal number ++ codes " bidders " ++ decimal bidders ++ codes " lines " ++ decimal lines ++ codes "\n"

-- texts that are appended to the files of the award and of the log
abbrev pub award_file : List ℕ → FileText
award_file text = record { kind = Award; text = text }

abbrev pub log_file : List ℕ → FileText
log_file text = record { kind = Log; text = text }

-- The award and the log of the auction that is made from a number are appended, in this order, and its line is printed.
abbrev pub MakeGives : ℕ → Outcome → Type 0
MakeGives number outcome =
    outcome ≡ done (made_line number made_bidders (length (made_log number))) (award_file made_award_text ∷ log_file (log_text (made_log number)) ∷ [])

-- the lines of the turns, if they are asked for, and then the placement and the prices that a certificate shows
pub record ArePlacedLines (slots : SlotList) (rounds : Bool) (p : PlaceCertValue) (turns : List BidderTurn) (text : List ℕ) : Type 0 where
  pub lines : List ℕ
  pub are_rounds : AreRounds rounds p.cert.choice turns lines
  pub prices : List ℕ
  pub are_prices : IsPlaceText slots p.order p.cert.choice (prices_in (board.market_of_slots slots) p.cert) (cert_point p.cert) prices
  pub whole : text ≡ lines ++ prices

-- The result of pricing the bidders of a band: a certificate that is exact and that passes all tests, and a pricing run that
-- ends at its payments; both are printed.
pub record IsPlacing (slots : SlotList) (rounds : Bool) (p : PlaceCertValue) (text : List ℕ) : Type 0 where
  pub certificate : IsPlaceCertificate (length slots.bidders) p
  pub priced : IsPricedPlaceCert slots p
  pub turns : List BidderTurn
  pub run : IsPricingRun (board.market_of_slots slots) alike p.cert.choice turns
  pub last : IsLastPoint turns (cert_point p.cert)
  pub printed : ArePlacedLines slots rounds p turns text

-- the placement and the prices are printed and their certificate is appended
abbrev pub PlaceGives : SlotList → Bool → Outcome → Type 0
PlaceGives slots rounds outcome = (p : PlaceCertValue) × (text : List ℕ) × IsPlacing slots rounds p text
    × (outcome ≡ done text (cert_file (place_text p) ∷ []))

-- the line `yes`, and the placement and the prices that the certificate shows
abbrev pub IsPlaceYes : SlotList → PlaceCertValue → List ℕ → Type 0
IsPlaceYes slots p text =
    (prices : List ℕ)
    × IsPlaceText slots p.order p.cert.choice (prices_in (board.market_of_slots slots) p.cert) (cert_point p.cert) prices × (text ≡ codes "yes\n" ++ prices)

-- A certificate of a placement that passes all tests gives yes and what it shows, and then its choice is one of the greatest, and its payments
-- are the core outcome. Else the first test that fails is reported, with its first place.
abbrev pub PlaceVerdictGives : SlotList → PlaceCertValue → Outcome → Type 0
PlaceVerdictGives slots p outcome =
    (places.PlacementHolds slots p × IsPlaceSound slots p
    × ((text : List ℕ) × IsPlaceYes slots p text × (outcome ≡ done text [])))
    ⊎ ((test place : ℕ) × places.FailsFirst slots p test place × (outcome ≡ stopped (No certs.Placement test place)))

-- the values and the winning choices of the book after each edit are printed
abbrev pub ReviewGives : BookValue → List Edit → Outcome → Type 0
ReviewGives book edits outcome = (text : List ℕ) × IsReviewText book edits text × (outcome ≡ done text [])

-- what slots, and a certificate of their placement, give by their bytes, where this follows
abbrev pub SlotsGive : Option (List ℕ) → (SlotList → Outcome → Type 0) → Outcome → Type 0
SlotsGive content follows outcome = InputGives Slots SLOTS_BYTES SlotsAnswers content follows outcome

abbrev pub PlaceCertGives : SlotList → Option (List ℕ) → (PlaceCertValue → Outcome → Type 0) → Outcome → Type 0
PlaceCertGives slots content follows outcome = InputGives Cert CERT_BYTES (PlaceCertAnswers (length slots.bidders)) content follows outcome

-- what the edits of a book give by their bytes, where this follows
abbrev pub EditsGive : BookValue → Option (List ℕ) → (List Edit → Outcome → Type 0) → Outcome → Type 0
EditsGive book content follows outcome = InputGives Edits EDITS_BYTES (EditsAnswers book) content follows outcome

-- What a command of a kind gives, by the form, the number and the bytes of its inputs of each kind.
abbrev pub KindGives : Kind → PriceForm → ℕ → (FileKind → Option (List ℕ)) → Outcome → Type 0
KindGives commands.Win form number contents outcome = BookGives (contents file_kind.Book) WinGives outcome
KindGives commands.Price form number contents outcome = BookGives (contents file_kind.Book) (λ b. PriceGives b (ones b) form) outcome
KindGives commands.Check form number contents outcome =
    BookGives (contents file_kind.Book) (λ b. CertGives b (contents Cert) (VerdictGives b (ones b))) outcome
KindGives commands.Weigh form number contents outcome =
    BookGives (contents file_kind.Book) (λ b. WeightsGive b (contents Weights) (λ w. PriceGives b w form)) outcome
KindGives commands.WeighCheck form number contents outcome =
    BookGives (contents file_kind.Book) (λ b. WeightsGive b (contents Weights) (λ w. CertGives b (contents Cert) (VerdictGives b w))) outcome
KindGives commands.Auction form number contents outcome =
    AwardGives (contents Award) (λ t. LogGives t (contents Log) (AuctionGives t)) outcome
KindGives commands.Award form number contents outcome =
    AwardGives (contents Award) (λ t. LogGives t (contents Log) (λ events. BookOfLogGives t events (λ b. PriceGives b (ones b) form))) outcome
KindGives commands.Audit form number contents outcome =
    AwardGives (contents Award)
    (λ t. LogGives t (contents Log) (λ events. BookOfLogGives t events (λ b. CertGives b (contents Cert) (VerdictGives b (ones b))))) outcome
KindGives commands.Make form number contents outcome = MakeGives number outcome
KindGives commands.Place form number contents outcome = SlotsGive (contents Slots) (λ s. PlaceGives s form.rounds) outcome
KindGives commands.PlaceCheck form number contents outcome =
    SlotsGive (contents Slots) (λ s. PlaceCertGives s (contents Cert) (PlaceVerdictGives s)) outcome
KindGives commands.Review form number contents outcome =
    BookGives (contents file_kind.Book) (λ b. EditsGive b (contents Edits) (ReviewGives b)) outcome

-- what a command gives, by the bytes of its inputs
abbrev pub CommandGives : CommandValue → (FileKind → Option (List ℕ)) → Outcome → Type 0
CommandGives command contents outcome = KindGives command.kind command.form command.number contents outcome

-- what a command gives by the files
abbrev pub FilesGive : CommandValue → (List ℕ → Option (List ℕ)) → Outcome → Type 0
FilesGive command file outcome = CommandGives command (contents_of command file) outcome

-- the outcome of a command, if there is one
abbrev pub WordsGive : Option CommandValue → (List ℕ → Option (List ℕ)) → Outcome → Type 0
WordsGive None file outcome = outcome ≡ stopped Words
WordsGive (Some command) file outcome = FilesGive command file outcome

-- The result of a run, by its arguments and the bytes of the files. What is appended is free within the tests of a certificate,
-- all else is unique.
abbrev pub Gives : List (List ℕ) → (List ℕ → Option (List ℕ)) → Outcome → Type 0
Gives words file outcome = WordsGive (command_of words) file outcome
