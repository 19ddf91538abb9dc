-- A checker and its reader.
use Rattle.std.proofs.Common.{List, [], ap, append_assoc, drop, refl, subst, sym, take, take-append-drop, ℕ, ◌++◌, ◌∙◌, ◌∷◌, ◌≡◌, ◌≤◌}
use Rattle.std.specs.Prelude.{ℤ, pos, get_or, false, Bool, Option, Some, None}
use Rattle.cert_text.specs.declared.certificate.Shape.{Shape}
use Rattle.cert_grammar.specs.Certificate.{CertValue}
use Rattle.cert_check.specs.declared.failure.Failure.{Failure}
use Rattle.cert_stream.specs.Dues.{line_with}
use Rattle.cert_stream.specs.LinesLeft.{LeadsInRoom}
use Rattle.cert_stream.specs.Order.{ComesBehind}
use Rattle.stream_check.specs.declared.row_totals.RowTotals.{RowTotals}
use Rattle.stream_check.specs.Grown.{IsGrown}
use Rattle.stream_check.specs.InRoom.{HasMembers}
use Rattle.stream_check.specs.Tests.{IsFound}
use Rattle.stream_check.specs.Totals.{AreTotals, HasTotals}
use Rattle.cert_stream.specs.declared.due.NextLine.TheVariants.{Version}
use Rattle.auction_model.specs.Prices.{weight_of}
use Rattle.cert_grammar.specs.Lines.{Line}
use Rattle.cert_soundness.specs.Tests.{bidders_of, states}
use Rattle.cert_stream.specs.declared.due.NextLine.{NextLine}
use Rattle.cert_stream.specs.declared.reader.Reader.{Reader}
use Rattle.cert_stream.specs.declared.stop.TextStop.{TextStop}
use Rattle.cert_stream.specs.Rooms.{KeepsOthers, start_due}
use Rattle.cert_stream.specs.Standing.{IsReading, ReadsBehind, StandsBehind, EndsBehind, StandsFor as ReadsFor}
use Rattle.cert_stream.specs.Stops.{SaysStop, StopsFor}
use Rattle.cert_stream.proofs.Standing.{stands_more, still_reading}
use Rattle.stream_check.specs.declared.check.StreamCheck.{StreamCheck}
use Rattle.stream_check.specs.Lines.{IsAtLine, IsKnown, IsNext}
use Rattle.stream_check.specs.Standing.{IsSetUp, IsKnownBy, StandsWith, HasTaken, EndsFor}
use Rattle.stream_check.proofs.StandLaws.{IsStep, known-failed, known-first, known-stays, step}

-- the same checker with another reader
abbrev pub with-reader : StreamCheck → Reader → StreamCheck
with-reader k r = record { book = k.book; weights = k.weights; reader = r; failed = k.failed; late = k.late; members = k.members; grows = k.grows; totals = k.totals }

module _ (k : StreamCheck) (set : IsSetUp k) where
  -- a reader of the same shape
  pub set-up : (r : Reader) → r.shape ≡ k.reader.shape → IsSetUp (with-reader k r)
  set-up r same = record {
    bidders = ap (λ x. x.bidders) same ∙ set.bidders;
    states_are = ap (λ x. x.states) same ∙ set.states_are;
    weights = set.weights;
  }

  -- what a reader says is said for the book's numbers of bidders and states
  pub says-stop : (text : List ℕ) (stop : TextStop) → SaysStop k.reader.shape.bidders k.reader.shape.states text stop
      → SaysStop (bidders_of k.book.now) (states k.book.now) text stop
  says-stop text stop is = subst (λ (n : ℕ). SaysStop n (states k.book.now) text stop) set.bidders
      (subst (λ (n : ℕ). SaysStop k.reader.shape.bidders n text stop) set.states_are is)

  -- what the reader has read it has read for the book's numbers of bidders and states
  pub reads-book : (room : List ℤ) (text : List ℕ) (items : List Line) → IsReading k.reader.shape.bidders k.reader.shape.states k.reader.due k.reader.part
      k.reader.place k.reader.read room text items
      → IsReading (bidders_of k.book.now) (states k.book.now) k.reader.due k.reader.part k.reader.place k.reader.read room text items
  reads-book room text items is =
      subst (λ (n : ℕ). IsReading n (states k.book.now) k.reader.due k.reader.part k.reader.place k.reader.read room text items) set.bidders
      (subst (λ (n : ℕ). IsReading k.reader.shape.bidders n k.reader.due k.reader.part k.reader.place k.reader.read room text items) set.states_are is)

  keeps-book : (due : NextLine) (old new : List ℤ) → KeepsOthers k.reader.shape.bidders k.reader.shape.states due old new
      → KeepsOthers (bidders_of k.book.now) (states k.book.now) due old new
  keeps-book due old new is = subst (λ (n : ℕ). KeepsOthers n (states k.book.now) due old new) set.bidders
      (subst (λ (n : ℕ). KeepsOthers k.reader.shape.bidders n due old new) set.states_are is)

  module _ (old new : List ℤ) (text text2 : List ℕ) (items : List Line) (r : Reader) (same : r.shape ≡ k.reader.shape) (due : r.due ≡ k.reader.due)
      (others : KeepsOthers k.reader.shape.bidders k.reader.shape.states k.reader.due old new)
      (is : IsReading k.reader.shape.bidders k.reader.shape.states k.reader.due k.reader.part k.reader.place k.reader.read old text items)
      (known : IsKnownBy k old items) where
    -- what is known stays while the reader reads on
    stays : IsKnownBy (with-reader k r) new items
    stays =
        subst (λ (d : NextLine). IsKnown k.book.now (weight_of k.weights.now) d k.failed k.late k.members k.grows k.totals new items) (sym due)
        (known-stays k.book.now (weight_of k.weights.now) k.reader.due k.failed k.late k.members k.grows k.totals old new items (reads-book old text items is).named
        (keeps-book k.reader.due old new others) known)

    -- it reads on, or stops
    pub stands-open : StandsBehind r new text2 items → HasTaken (with-reader k r) new text2
    stands-open behind = (set-up r same, (items, by r.stop behind))
      where
        by : (o : Option TextStop) → ReadsBehind r.shape.bidders r.shape.states r.due r.part r.place r.read new text2 items o
            → StandsWith (with-reader k r) new text2 items o
        by (Some stop) behind = behind
        by None behind = (behind, stays)

    -- a line came whole
    pub ends-line : EndsBehind r new text2 items → EndsFor (with-reader k r) new text2 items
    ends-line ends = (set-up r same, ends, stays)

-- the checker's reader stands for the text
pub to-reader : (k : StreamCheck) (room : List ℤ) (text : List ℕ) (items : List Line) → StandsWith k room text items k.reader.stop → ReadsFor k.reader room text
to-reader k room text items is = (items, by k.reader.stop is)
  where
    by : (o : Option TextStop) → StandsWith k room text items o → ReadsBehind k.reader.shape.bidders k.reader.shape.states k.reader.due k.reader.part
        k.reader.place k.reader.read room text items o
    by (Some stop) is = is
    by None is = is.0

-- a checker whose reader has stopped
pub stopped-for : (k : StreamCheck) (room : List ℤ) (text : List ℕ) (items : List Line) → (k.reader.stop ≡ None → ⊥) → IsSetUp k
    → StandsBehind k.reader room text items → HasTaken k room text
stopped-for k room text items some set behind = (set, (items, by k.reader.stop some behind))
  where
    by : (o : Option TextStop) → (o ≡ None → ⊥) → ReadsBehind k.reader.shape.bidders k.reader.shape.states k.reader.due k.reader.part k.reader.place
        k.reader.read room text items o → StandsWith k room text items o
    by (Some stop) some behind = behind
    by None some behind = absurd (some refl)

-- stands for each longer text
pub rest-for : (k : StreamCheck) (room : List ℤ) (text piece : List ℕ) (at : ℕ) → (k.reader.stop ≡ None → ⊥) → HasTaken k room (text ++ take at piece)
    → HasTaken k room (text ++ piece)
rest-for k room text piece at some (set, (items, is)) = (set, (items, by k.reader.stop some is))
  where
    joined : (text ++ take at piece) ++ drop at piece ≡ text ++ piece
    joined = append_assoc text (take at piece) (drop at piece) ∙ ap (λ (l : List ℕ). text ++ l) (take-append-drop at piece)

    by : (o : Option TextStop) → (o ≡ None → ⊥) → StandsWith k room (text ++ take at piece) items o → StandsWith k room (text ++ piece) items o
    by None some is = absurd (some refl)
    by (Some stop) some is = subst (λ (l : List ℕ). StopsFor k.reader.shape.bidders k.reader.shape.states l stop) joined
        (stands_more k.reader.shape.bidders k.reader.shape.states (text ++ take at piece) (drop at piece) stop is)

-- One more line has come in range, and the reader goes on: what is known of each certificate that has it.
module _ (k : StreamCheck) (set : IsSetUp k) (r : Reader) (room : List ℤ) (text : List ℕ) (items : List Line) (count : ℕ)
    (few : bidders_of k.book.now ≤ 65535) (count_is : count ≡ k.reader.part.count) (none : k.failed ≡ None) (on : r.stop ≡ None)
    (same : r.shape ≡ k.reader.shape) (ends : EndsBehind k.reader room text items) (known : IsKnownBy k room items) (within : k.reader.part.beyond ≡ false)
    (leads : LeadsInRoom k.reader.shape.bidders k.reader.shape.states k.reader.due room r.due)
    (behind : ComesBehind k.reader.shape.bidders (take k.reader.shape.bidders room)
    (get_or room (start_due k.reader.shape.bidders k.reader.shape.states k.reader.due) (pos 0)) k.reader.due r.due)
    (stands : StandsBehind r room (text ++ 10 ∷ []) (items ++ line_with k.reader.due ends.whole.numbers ∷ [])) where
  reading : IsReading k.reader.shape.bidders k.reader.shape.states r.due r.part r.place r.read room (text ++ 10 ∷ [])
      (items ++ line_with k.reader.due ends.whole.numbers ∷ [])
  reading =
      subst (λ (x : Shape). IsReading x.bidders x.states r.due r.part r.place r.read room (text ++ 10 ∷ [])
      (items ++ line_with k.reader.due ends.whole.numbers ∷ [])) same
      (still_reading r.shape.bidders r.shape.states r.due r.part r.place r.read room (text ++ 10 ∷ [])
      (items ++ line_with k.reader.due ends.whole.numbers ∷ []) r.stop on stands)

  -- some certificate has the line there, and what the tests show of each that has is known after it
  pub the-step : IsStep k.book.now (weight_of k.weights.now) k.reader.due r.due count k.late k.members k.grows k.totals room
      (items ++ line_with k.reader.due ends.whole.numbers ∷ [])
  the-step =
      subst (λ (n : ℕ). IsStep k.book.now (weight_of k.weights.now) k.reader.due r.due n k.late k.members k.grows k.totals room
      (items ++ line_with k.reader.due ends.whole.numbers ∷ [])) (sym count_is)
      (step k.book.now (weight_of k.weights.now) k.reader.due r.due k.reader.part r.part k.reader.place k.reader.read r.place r.read room text
      (text ++ 10 ∷ []) items k.late k.members k.grows k.totals few within
      (subst (λ (o : Option Failure). IsKnown k.book.now (weight_of k.weights.now) k.reader.due o k.late k.members k.grows k.totals room items) none known)
      k.reader.shape.bidders k.reader.shape.states (sym set.bidders) (sym set.states_are) ends leads behind reading)

  -- so the checker stands for the text after it
  pub stands-next : (failed2 : Option Failure) (late2 : Option ℕ) (members2 : ℕ) (grows2 : Bool) (totals2 : RowTotals)
      → ((c : CertValue) → IsAtLine k.book.now (weight_of k.weights.now) c k.reader.due count k.late k.members k.grows k.totals room
      → IsNext k.book.now c k.reader.due r.due
      → IsFound k.book.now (weight_of k.weights.now) c r.due failed2 late2 × HasMembers (bidders_of k.book.now) (states k.book.now) c r.due members2 room
      × HasTotals c r.due totals2 × IsGrown k.book.now c r.due grows2)
      → HasTaken (record { book = k.book; weights = k.weights; reader = r; failed = failed2; late = late2; members = members2; grows = grows2; totals = totals2 }) room
      (text ++ 10 ∷ [])
  stands-next failed2 late2 members2 grows2 totals2 each = (
    record { bidders = ap (λ x. x.bidders) same ∙ set.bidders; states_are = ap (λ x. x.states) same ∙ set.states_are; weights = set.weights },
    (items ++ line_with k.reader.due ends.whole.numbers ∷ [], by r.stop on stands),
  )
    where
      by : (o : Option TextStop) → o ≡ None → ReadsBehind r.shape.bidders r.shape.states r.due r.part r.place r.read room (text ++ 10 ∷ [])
          (items ++ line_with k.reader.due ends.whole.numbers ∷ []) o
          → StandsWith (record { book = k.book; weights = k.weights; reader = r; failed = failed2; late = late2; members = members2; grows = grows2; totals = totals2 }) room
          (text ++ 10 ∷ []) (items ++ line_with k.reader.due ends.whole.numbers ∷ []) o
      by (Some stop) on is = cc
      by None on is = (is, the-step.known failed2 late2 members2 grows2 totals2 each)

-- what had failed before goes on failing
pub stands-failed : (k : StreamCheck) (set : IsSetUp k) (r : Reader) (room : List ℤ) (text : List ℕ) (items : List Line) (own : Line) → (k.failed ≡ None → ⊥)
    → r.shape ≡ k.reader.shape → IsKnownBy k room items → StandsBehind r room (text ++ 10 ∷ []) (items ++ own ∷ [])
    → HasTaken (with-reader k r) room (text ++ 10 ∷ [])
stands-failed k set r room text items own some same known behind = (set-up k set r same, (items ++ own ∷ [], by r.stop behind))
  where
    later : (o : Option Failure) → k.failed ≡ o → (o ≡ None → ⊥) → IsKnownBy (with-reader k r) room (items ++ own ∷ [])
    later None is some = absurd (some refl)
    later (Some f) is some = known-failed k.book.now (weight_of k.weights.now) k.reader.due r.due k.failed f k.late k.late k.members k.members k.grows k.grows k.totals
        k.totals room items own is known

    by : (o : Option TextStop) → ReadsBehind r.shape.bidders r.shape.states r.due r.part r.place r.read room (text ++ 10 ∷ []) (items ++ own ∷ []) o
        → StandsWith (with-reader k r) room (text ++ 10 ∷ []) (items ++ own ∷ []) o
    by (Some stop) is = is
    by None is = (is, later k.failed refl some)

-- a checker to which nothing was fed
pub stands-first : (k : StreamCheck) (room : List ℤ) → IsSetUp k → k.reader.due ≡ Version → k.reader.stop ≡ None → k.failed ≡ None → k.late ≡ None
    → k.members ≡ 0 → k.grows ≡ false → ((c : CertValue) → AreTotals c 0 k.totals) → StandsBehind k.reader room [] [] → HasTaken k room []
stands-first k room set first on none no_late nobody falls totals behind = (set, ([], by k.reader.stop on behind))
  where
    known : IsKnownBy k room []
    known =
        subst (λ (o : Option Failure). IsKnown k.book.now (weight_of k.weights.now) k.reader.due o k.late k.members k.grows k.totals room []) (sym none)
        (subst (λ (o : Option ℕ). IsKnown k.book.now (weight_of k.weights.now) k.reader.due None o k.members k.grows k.totals room []) (sym no_late)
        (subst (λ (n : ℕ). IsKnown k.book.now (weight_of k.weights.now) k.reader.due None None n k.grows k.totals room []) (sym nobody)
        (subst (λ (g : Bool). IsKnown k.book.now (weight_of k.weights.now) k.reader.due None None 0 g k.totals room []) (sym falls)
        (known-first k.book.now (weight_of k.weights.now) k.reader.due k.totals room first totals))))

    by : (o : Option TextStop) → o ≡ None → ReadsBehind k.reader.shape.bidders k.reader.shape.states k.reader.due k.reader.part k.reader.place k.reader.read
        room [] [] o → StandsWith k room [] [] o
    by (Some stop) on is = cc
    by None on is = (is, known)
