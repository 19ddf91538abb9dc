-- A checker whose answer is yes, and the certificate whose text was fed.
use Rattle.std.proofs.Common.{◌≡◌, ℕ, List, [], refl, subst, arith}
use Rattle.std.specs.Prelude.{ℤ, Bool, Option, Some, None}
use Rattle.auction_model.specs.Book.{Book}
use Rattle.auction_model.specs.Prices.{weight_of}
use Rattle.line_format.specs.LineText.{Said, beyond, faulty, stated}
use Rattle.cert_grammar.specs.Certificate.{CertValue}
use Rattle.cert_grammar.specs.CertText.{IsCertificate}
use Rattle.cert_grammar.specs.Lines.{Line}
use Rattle.cert_grammar.specs.Says.{CertSays}
use Rattle.cert_soundness.specs.Tests.{FailsFirst, Holds, bidders_of, states}
use Rattle.cert_check.specs.declared.failure.Failure.{Failure}
use Rattle.cert_check.specs.Partway.{IsJudged}
use Rattle.cert_check.proofs.PartwayLaws.{all-hold}
use Rattle.cert_stream.specs.declared.due.NextLine.{NextLine}
use Rattle.cert_stream.specs.declared.due.NextLine.TheVariants.{Choice, Den, End, Entries, Limits, Members, Multipliers, Nothing, PartChoice, Payments}
use Rattle.cert_stream.specs.declared.due.NextLine.TheVariants.{RowChoice, Rows, Title, Value, Version, Without}
use Rattle.cert_stream.specs.declared.stop.TextStop.{TextStop}
use Rattle.cert_stream.specs.declared.stop.TextStop.TheVariants.{Form, Range}
use Rattle.cert_stream.specs.Stops.{SaysStop}
use Rattle.cert_stream.proofs.Standing.{not_yet, says}
use Rattle.stream_check.specs.declared.check.StreamCheck.{StreamCheck}
use Rattle.stream_check.specs.declared.row_totals.RowTotals.{RowTotals}
use Rattle.stream_check.specs.Lines.{HasCome, IsLeft}
use Rattle.stream_check.specs.Standing.{IsSetUp, HasTaken, StandsWith}
use Rattle.stream_check.specs.WholeRoom.{HasAll}
use Rattle.stream_check.proofs.CheckLaws.{reads-book, says-stop}
use Rattle.stream_check.proofs.StandLaws.{IsDone, at-end}

-- it reads on, no line is to come, and no test fails
pub record HasEnded (k : StreamCheck) : Type 0 where
  -- the reader has not stopped
  pub on : k.reader.stop ≡ None
  -- no line is to come
  pub done : k.reader.due ≡ Nothing
  -- no test fails
  pub none : k.failed ≡ None

-- no line is to come if none can be
all-come : (due : NextLine) → ((due ≡ Nothing → ⊥) → ⊥) → due ≡ Nothing
all-come Version not = absurd (not (λ e. cc e))
all-come Limits not = absurd (not (λ e. cc e))
all-come Den not = absurd (not (λ e. cc e))
all-come Value not = absurd (not (λ e. cc e))
all-come Choice not = absurd (not (λ e. cc e))
all-come (Title table) not = absurd (not (λ e. cc e))
all-come (Entries table k) not = absurd (not (λ e. cc e))
all-come (Without j) not = absurd (not (λ e. cc e))
all-come (PartChoice j) not = absurd (not (λ e. cc e))
all-come Payments not = absurd (not (λ e. cc e))
all-come Rows not = absurd (not (λ e. cc e))
all-come (Members r) not = absurd (not (λ e. cc e))
all-come (Multipliers r) not = absurd (not (λ e. cc e))
all-come (RowChoice r) not = absurd (not (λ e. cc e))
all-come End not = absurd (not (λ e. cc e))
all-come Nothing not = refl

-- the room has what the facts are reported from
has-all : (book : Book) (w : ℕ → ℕ) (c : CertValue) (failed : Option Failure) (late : Option ℕ) (members : ℕ) (grows : Bool) (totals : RowTotals) (room : List ℤ)
    → failed ≡ None → IsCertificate (bidders_of book) (states book) c → HasCome book w c [] Nothing failed late members grows totals room
    → HasAll book c room
has-all book w c failed late members grows totals room none kept come =
    let left : IsLeft book w c [] Nothing late members grows totals room = subst (λ (o : Option Failure). HasCome book w c [] Nothing o late members grows totals room)
    none come in
    let holds = all-hold book w c left.known.tested.holds in
    record {
      of = record { certificate = kept; sizes = holds.c1; choice = holds.c2; parts = holds.c4; payments = holds.c5 };
      den = left.known.in_room.den (omega arith);
      value = left.known.in_room.value (omega arith);
      choice = left.known.in_room.choice (omega arith);
      pay = left.known.in_room.pay (omega arith);
      parts = λ j some inside wins. left.known.in_room.parts j some inside (omega (arith, inside)) wins;
    }

-- the certificate whose text it is, and what the room has of it
pub record IsRead (k : StreamCheck) (room : List ℤ) (text : List ℕ) : Type 0 where
  -- the certificate that was read
  pub cert : CertValue
  -- the text states it
  pub says_it : CertSays (bidders_of k.book.now) (states k.book.now) text (stated cert)
  -- the room has what its facts are reported from
  pub all : HasAll k.book.now cert room

module _ (k : StreamCheck) (room : List ℤ) (text : List ℕ) where
  -- what it has read, while it reads on and no line is to come
  ended : k.reader.stop ≡ None → k.reader.due ≡ Nothing → (set : IsSetUp k) (items : List Line) → StandsWith k room text items k.reader.stop
      → IsDone k.book.now (weight_of k.weights.now) text k.failed k.late k.members k.grows k.totals room
  ended on done set items is =
      let now = subst (StandsWith k room text items) on is in
      at-end k.book.now (weight_of k.weights.now) k.reader.due k.reader.part k.reader.place k.reader.read room text items k.failed k.late k.members k.grows k.totals
      done (reads-book k set room text items now.0) now.1

  -- a checker that has ended has read a certificate, of which the room has what the facts are reported from
  pub read-whole : HasEnded k → HasTaken k room text → IsRead k room text
  read-whole has (set, (items, is)) =
      let d = ended has.on has.done set items is in
      record {
        cert = d.cert;
        says_it = d.says;
        all = has-all k.book.now (weight_of k.weights.now) d.cert k.failed k.late k.members k.grows k.totals room has.none
            d.kept d.come;
      }

  -- the text states a certificate whose tests hold
  module _ (one : (bidders states : ℕ) (bytes : List ℕ) (x y : Said CertValue ℕ) → CertSays bidders states bytes x → CertSays bidders states bytes y → x ≡ y)
      (not_both : (book : Book) (w : ℕ → ℕ) (c : CertValue) (t p : ℕ) → Holds book w c → FailsFirst book w c t p → ⊥)
      (c : CertValue) (states_it : CertSays (bidders_of k.book.now) (states k.book.now) text (stated c))
      (holds : Holds k.book.now (weight_of k.weights.now) c) where
    not-stopped : (stop : TextStop) → SaysStop (bidders_of k.book.now) (states k.book.now) text stop → ⊥
    not-stopped (Form place) stops = let e : stated c ≡ faulty place = one (bidders_of k.book.now) (states k.book.now) text (stated c)
        (faulty place) states_it stops in cc e
    not-stopped (Range place) stops = let e : stated c ≡ beyond place = one (bidders_of k.book.now) (states k.book.now) text (stated c)
        (beyond place) states_it stops in cc e

    reads : (set : IsSetUp k) (items : List Line) (o : Option TextStop) → StandsWith k room text items o → o ≡ None
    reads set items (Some stop) is = absurd (not-stopped stop (says-stop k set text stop (says k.reader.shape.bidders k.reader.shape.states text stop is)))
    reads set items None is = refl

    comes : (set : IsSetUp k) (items : List Line) → StandsWith k room text items None → k.reader.due ≡ Nothing
    comes set items is = all-come k.reader.due (λ due. not-stopped (Form k.reader.place)
        (not_yet (bidders_of k.book.now) (states k.book.now) k.reader.due k.reader.part k.reader.place k.reader.read room text items
        (reads-book k set room text items is.0) due))

    passes : (d : CertValue) → CertSays (bidders_of k.book.now) (states k.book.now) text (stated d) → (o : Option Failure)
        → IsJudged k.book.now (weight_of k.weights.now) d 10 0 o → o ≡ None
    passes d says_it None judged = refl
    passes d says_it (Some f) judged =
        let e : stated c ≡ stated d = one (bidders_of k.book.now) (states k.book.now) text (stated c) (stated d) states_it says_it in
        let same : c ≡ d = cc in
        absurd (not_both k.book.now (weight_of k.weights.now) d f.test f.place (subst (Holds k.book.now (weight_of k.weights.now)) same holds) judged)

    -- a checker that stands for such a text has ended
    pub has-ended : HasTaken k room text → HasEnded k
    has-ended (set, (items, is)) =
        let on = reads set items k.reader.stop is in
        let done = comes set items (subst (StandsWith k room text items) on is) in
        let d = ended on done set items is in
        record { on = on; done = done; none = passes d.cert d.says k.failed d.judged }
