-- A certificate that is checked from pieces of its file.
use Rattle.std.specs.Prelude.{◌≡◌, ◌⊎◌, ◌≤◌, ◌+◌, ℕ, ℤ, Result, Ok, Err, List, length}
use Rattle.limits.specs.declared.LimitKind.TheVariants.{Bytes}
use Rattle.limits.specs.declared.TheConstants.{CERT_BYTES}
use Rattle.line_format.specs.LineText.{stated}
use Rattle.auction_model.specs.Book.{Book as BookValue}
use Rattle.auction_model.specs.Prices.{weight_of}
use Rattle.cca_base.specs.Files.{Folder, GaveAll}
use Rattle.cert_grammar.specs.Certificate.{CertValue}
use Rattle.cert_grammar.specs.Says.{CertSays}
use Rattle.cert_soundness.specs.Sound.{IsSound}
use Rattle.cert_soundness.specs.Tests.{FailsFirst, Holds, bidders_of, states}
use Rattle.cert_summary.specs.Facts.{AreFacts}
use Rattle.cert_summary.specs.declared.shown.CertFacts.{CertFacts}
use Rattle.cert_stream.specs.declared.stop.TextStop.{TextStop}
use Rattle.cert_stream.specs.declared.stop.TextStop.TheVariants as text
use Rattle.stream_check.specs.Standing.{HasTaken}
use Rattle.stream_check.specs.declared.check.StreamCheck.{StreamCheck}
use Rattle.cca_cli.specs.Answers.{CertAnswers}
use Rattle.cca_cli.specs.Outcome.{value, stops}
use Rattle.cca_cli.specs.Reading.{IsStop}
use Rattle.cca_cli.specs.declared.status.CertKind.TheVariants as certs
use Rattle.cca_cli.specs.declared.status.FileKind.TheVariants.{Cert}
use Rattle.cca_cli.specs.declared.status.Status.{Status}
use Rattle.cca_cli.specs.declared.status.Status.TheVariants.{Limit, No, Memory, ReadFault, Refused}
use Rattle.cca_commands.specs.declared.checked.FeedStop.{FeedStop}
use Rattle.cca_commands.specs.declared.checked.FeedStop.TheVariants as feed

-- The bytes state a certificate that passes all tests by these weights, so that its choice and its payments are the core
-- outcome, and these are its facts.
abbrev pub ShowsFacts : BookValue → List ℕ → List ℕ → CertFacts → Type 0
ShowsFacts book weights bytes facts =
    (c : CertValue) × CertAnswers book bytes (value c) × Holds book (weight_of weights) c
    × IsSound book (weight_of weights) c × AreFacts book c facts

-- the bytes state a certificate, and this test is the first that fails for it by these weights, with its first place
abbrev pub FailsATest : BookValue → List ℕ → List ℕ → Status → Type 0
FailsATest book weights bytes status =
    (c : CertValue) × CertAnswers book bytes (value c)
    × ((test place : ℕ) × FailsFirst book (weight_of weights) c test place × (status ≡ No certs.Book test place))

-- the bytes state no certificate of the book, or one that fails a test
abbrev pub StopsCheck : BookValue → List ℕ → List ℕ → Status → Type 0
StopsCheck book weights bytes status = CertAnswers book bytes (stops status) ⊎ FailsATest book weights bytes status

-- the bytes state a certificate that passes all tests by these weights, so that its choice and its payments are the core
-- outcome
abbrev pub PassesTests : BookValue → List ℕ → List ℕ → Type 0
PassesTests book weights bytes =
    (c : CertValue) × CertSays (bidders_of book) (states book) bytes (stated c) × Holds book (weight_of weights) c
    × IsSound book (weight_of weights) c

-- what the loads in between gave of the file is a certificate that passes all tests by these weights
pub record IsFoundRight (book : BookValue) (weights name : List ℕ) (old new : Folder) : Type 0 where
  pub text : List ℕ
  pub here : GaveAll name old new text
  pub passes : PassesTests book weights text

-- a file that can't be read, and one that is too long
abbrev pub feed_status : FeedStop → Status
feed_status feed.Fault = ReadFault Cert
feed_status feed.TooLong = Limit Bytes (CERT_BYTES + 1)

-- a number out of range refuses the file as a faulty line does
abbrev pub text_status : TextStop → Status
text_status (text.Form place) = Refused Cert place 0
text_status (text.Range place) = Refused Cert place 0

-- The checker stands for a text within the limit, and that is what the loads in between gave of the file.
pub record IsFed (book : BookValue) (weights : List ℕ) (name : List ℕ) (old new : Folder) (room : List ℤ) (checker : StreamCheck) : Type 0 where
  pub text : List ℕ
  pub short : length text ≤ CERT_BYTES
  pub stands : HasTaken checker room text
  pub here : GaveAll name old new text
  pub book_is : checker.book.now ≡ book
  pub weights_are : checker.weights.now ≡ weights

-- the result of a checker that stands for this text
abbrev pub IsJudged : BookValue → List ℕ → List ℕ → Result CertFacts Status → Type 0
IsJudged book weights bytes (Ok facts) = ShowsFacts book weights bytes facts
IsJudged book weights bytes (Err status) = (status ≡ Memory) ⊎ (IsStop status × StopsCheck book weights bytes status)
