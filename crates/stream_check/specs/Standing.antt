-- The text that a checker stands for.
use Rattle.std.specs.Prelude.{◌≡◌, ℕ, List, Option, Some, None, ℤ}
use Rattle.auction_model.specs.Prices.{AreWeights, weight_of}
use Rattle.cert_grammar.specs.Lines.{Line}
use Rattle.cert_soundness.specs.Tests.{bidders_of, states}
use Rattle.cert_stream.specs.declared.stop.TextStop.{TextStop}
use Rattle.cert_stream.specs.Standing.{EndsBehind, IsReading}
use Rattle.cert_stream.specs.Stops.{StopsFor}
use Rattle.stream_check.specs.declared.check.StreamCheck.{StreamCheck}
use Rattle.stream_check.specs.Lines.{IsKnown}

-- the reader is one for certificates of the book, and there is one weight for each bidder
pub record IsSetUp (k : StreamCheck) : Type 0 where
  pub bidders : k.reader.shape.bidders ≡ bidders_of k.book.now
  pub states_are : k.reader.shape.states ≡ states k.book.now
  pub weights : AreWeights (bidders_of k.book.now) k.weights.now

-- what the tests have shown of the lines that have come
abbrev pub IsKnownBy : StreamCheck → List ℤ → List Line → Type 0
IsKnownBy k room items = IsKnown k.book.now (weight_of k.weights.now) k.reader.due k.failed k.late k.members k.grows k.totals room items

-- The reader reads on after these lines, and this is known of them; or the text is the prefix of no certificate.
abbrev pub StandsWith : StreamCheck → List ℤ → List ℕ → List Line → Option TextStop → Type 0
StandsWith k room text items (Some stop) = StopsFor k.reader.shape.bidders k.reader.shape.states text stop
StandsWith k room text items None = IsReading k.reader.shape.bidders k.reader.shape.states k.reader.due k.reader.part k.reader.place k.reader.read room text items × IsKnownBy k room items

-- with its room the checker stands for this text
abbrev pub HasTaken : StreamCheck → List ℤ → List ℕ → Type 0
HasTaken k room text = IsSetUp k × ((items : List Line) × StandsWith k room text items k.reader.stop)

-- a line feed has made the line whole that was due
abbrev pub EndsFor : StreamCheck → List ℤ → List ℕ → List Line → Type 0
EndsFor k room text items = IsSetUp k × EndsBehind k.reader room text items × IsKnownBy k room items
