use Rattle.std.proofs.Common.{◌≡◌, ℕ, ◌+◌, ◌-◌, List, ◌++◌, drop, get_or, subst, arith, rules}
use Rattle.cert_stream.specs.declared.due.NextLine.TheVariants.{Nothing}
use Rattle.cert_stream.specs.declared.stop.TextStop.TheVariants.{Form}
use Rattle.cert_stream.specs.Dues.{word_of}
use Rattle.cert_stream.specs.Rooms.{form_due, segment}
use Rattle.cert_stream.specs.Pieces.{between}
use Rattle.cert_stream.specs.LineParts.{ReadsOn}
use Rattle.cert_stream.specs.Stops.{StopsFor}
use Rattle.cert_stream.proofs.Runs.{between_long, and_one, first_one}
use Rattle.cert_stream.proofs.Standing.{more_behind, goes_on, goes_wrong, goes_whole, still_reading, reads_on}
use Rattle.cert_stream.proofs.reader.Reader.read_on.Goals as goal

pub returns-then-eq-clause-advances : goal.returns-then-eq-clause-advances
returns-then-eq-clause-advances c = λ text items is.
    let r = c.args.self.now in
    let done : c.args.self.now.due ≡ Nothing = search rules in
    let reading = still_reading r.shape.bidders r.shape.states r.due r.part r.place r.read c.args.room.now text items r.stop c.requires.reading is in
    subst (λ (l : List ℕ). StopsFor r.shape.bidders r.shape.states l (Form c.args.self.now.place)) (first_one text c.args.piece.now c.args.at c.requires.at)
    (more_behind r.shape.bidders r.shape.states r.due r.part r.place r.read c.args.room.now text items reading done (get_or c.args.piece.now c.args.at 0))

pub returns-in-Open-clause-advances : goal.returns-in-Open-clause-advances
returns-in-Open-clause-advances c = λ text items is.
    let b = c.args.self.now.shape.bidders in
    let s = c.args.self.now.shape.states in
    let some : c.args.self.now.due ≡ Nothing → ⊥ = search rules in
    let reading = still_reading b s c.args.self.now.due c.args.self.now.part c.args.self.now.place c.args.self.now.read c.args.room.now text items
    c.args.self.now.stop c.requires.reading is in
    let reads = subst (ReadsOn (word_of c.args.self.now.due) (form_due b s c.args.self.now.due) c.read_due-line.result.part
    (segment b s c.args.self.now.due c.read_due-line.new.room) (drop c.args.self.now.place text) c.args.piece.now c.args.at c.read_due-line.result.end)
    c.in-Open.is (c.read_due-line.ensures.reads (drop c.args.self.now.place text) reading.front) in
    let size = between_long c.args.at c.read_due-line.result.end c.args.piece.now c.read_due-line.ensures.from (omega (arith, reads.0)) in
    reads_on b s c.args.self.now.due c.read_due-line.result.part c.args.self.now.place (c.args.self.now.read + (c.read_due-line.result.end - c.args.at))
    c.read_due-line.new.room (text ++ between c.args.at c.read_due-line.result.end c.args.piece.now) items c.args.self.now.stop c.requires.reading
    (goes_on b s c.args.self.now.due c.args.self.now.part c.args.self.now.place c.args.self.now.read c.args.room.now text items reading some
    (between c.args.at c.read_due-line.result.end c.args.piece.now) c.read_due-line.ensures.line c.read_due-line.result.part c.read_due-line.new.room
    c.read_due-line.ensures.choice (c.args.self.now.read + (c.read_due-line.result.end - c.args.at)) (omega (arith, size)) reads.1)

pub returns-in-Fault-clause-advances : goal.returns-in-Fault-clause-advances
returns-in-Fault-clause-advances c = λ text items is.
    let b = c.args.self.now.shape.bidders in
    let s = c.args.self.now.shape.states in
    let some : c.args.self.now.due ≡ Nothing → ⊥ = search rules in
    let reading = still_reading b s c.args.self.now.due c.args.self.now.part c.args.self.now.place c.args.self.now.read c.args.room.now text items
    c.args.self.now.stop c.requires.reading is in
    let reads = subst (ReadsOn (word_of c.args.self.now.due) (form_due b s c.args.self.now.due) c.read_due-line.result.part
    (segment b s c.args.self.now.due c.read_due-line.new.room) (drop c.args.self.now.place text) c.args.piece.now c.args.at c.read_due-line.result.end)
    c.in-Fault.is (c.read_due-line.ensures.reads (drop c.args.self.now.place text) reading.front) in
    subst (λ (l : List ℕ). StopsFor b s l (Form c.args.self.now.place)) (and_one text c.args.piece.now c.args.at c.read_due-line.result.end
    c.read_due-line.ensures.from reads.0)
    (goes_wrong b s c.args.self.now.due c.args.self.now.part c.args.self.now.place c.args.self.now.read c.args.room.now text items reading some
    (between c.args.at c.read_due-line.result.end c.args.piece.now) c.read_due-line.ensures.line c.read_due-line.result.part c.read_due-line.new.room
    c.read_due-line.ensures.choice (get_or c.args.piece.now c.read_due-line.result.end 0) reads.1)

pub returns-in-Whole-clause-advances : goal.returns-in-Whole-clause-advances
returns-in-Whole-clause-advances c = λ text items is.
    let b = c.args.self.now.shape.bidders in
    let s = c.args.self.now.shape.states in
    let some : c.args.self.now.due ≡ Nothing → ⊥ = search rules in
    let reading = still_reading b s c.args.self.now.due c.args.self.now.part c.args.self.now.place c.args.self.now.read c.args.room.now text items
    c.args.self.now.stop c.requires.reading is in
    let reads = subst (ReadsOn (word_of c.args.self.now.due) (form_due b s c.args.self.now.due) c.read_due-line.result.part
    (segment b s c.args.self.now.due c.read_due-line.new.room) (drop c.args.self.now.place text) c.args.piece.now c.args.at c.read_due-line.result.end)
    c.in-Whole.is (c.read_due-line.ensures.reads (drop c.args.self.now.place text) reading.front) in
    let size = between_long c.args.at c.read_due-line.result.end c.args.piece.now c.read_due-line.ensures.from (omega (arith, reads.0)) in (
      reads.1,
      goes_whole b s c.args.self.now.due c.args.self.now.part c.args.self.now.place c.args.self.now.read c.args.room.now text items reading some
          (between c.args.at c.read_due-line.result.end c.args.piece.now) c.read_due-line.ensures.line c.read_due-line.result.part c.read_due-line.new.room
          c.read_due-line.ensures.choice (c.args.self.now.read + (c.read_due-line.result.end - c.args.at + 1)) (omega (arith, size)) reads.2,
    )
