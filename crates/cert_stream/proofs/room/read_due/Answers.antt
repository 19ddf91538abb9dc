use Rattle.std.proofs.Common.{◌≡◌, ℕ, ◌+◌, ◌-◌, List, ◌++◌, take, drop, refl, subst, arith, length-take, length-drop}
use Rattle.std.specs.Prelude.{ℤ}
use Rattle.cert_stream.specs.declared.line.form.Form.{Form}
use Rattle.cert_stream.specs.Forms.{room_for}
use Rattle.cert_stream.specs.Rooms.{start_due, form_due}
use Rattle.cert_stream.specs.LineParts.{ReadsOn}
use Rattle.cert_stream.proofs.Segments.{in_segment, in_room, behind}
use Rattle.cert_stream.proofs.room.read_due.Goals as goal

pub returns-clause-reads : goal.returns-clause-reads
returns-clause-reads c = λ bytes part.
    in_segment (λ (w : List ℕ) (f : Form) (out : List ℤ). ReadsOn w f c.read_line.result.part out bytes c.args.piece.now c.args.at c.read_line.result.end
    c.read_line.result.outcome)
    c.args.shape.bidders c.args.shape.states c.args.due c.args.part c.args.room.now c.read_line.new.out _ bytes c.word.result.now c.form-form.result
    c.numbers_span-span.result.start c.numbers_span-span.result.end
    c.requires.due c.word.ensures c.form-form.ensures c.numbers_span-span.ensures.start c.numbers_span-span.ensures.end c.requires.room
    c.read_line.ensures.room (c.read_line.ensures.reads bytes) part

pub returns-clause-back : goal.returns-clause-back
returns-clause-back c =
    let b = c.args.shape.bidders in
    let s = c.args.shape.states in
    let end : c.numbers_span-span.result.end ≡ start_due c.args.shape.bidders c.args.shape.states c.args.due + room_for
    (form_due c.args.shape.bidders c.args.shape.states c.args.due) = c.numbers_span-span.ensures.end in
    let start : c.numbers_span-span.result.start ≡ start_due c.args.shape.bidders c.args.shape.states c.args.due = c.numbers_span-span.ensures.start in
    let h = behind c.numbers_span-span.result.start (c.numbers_span-span.result.end - c.numbers_span-span.result.start) c.args.room.now c.read_line.new.out _
    (omega (arith, start, c.requires.room, in_room c.args.shape.bidders c.args.shape.states c.args.due c.requires.due))
    (omega (
      arith,
      c.read_line.ensures.room,
      length-take (c.numbers_span-span.result.end - c.numbers_span-span.result.start)
          (drop c.numbers_span-span.result.start c.args.room.now),
      length-drop c.numbers_span-span.result.start c.args.room.now,
      start,
      end,
      c.requires.room,
      in_room c.args.shape.bidders c.args.shape.states c.args.due c.requires.due,
    )) refl in
    let same : c.numbers_span-span.result.start + (c.numbers_span-span.result.end - c.numbers_span-span.result.start) ≡ start_due c.args.shape.bidders
    c.args.shape.states c.args.due + room_for (form_due c.args.shape.bidders c.args.shape.states c.args.due) = omega (arith, start, end) in
    subst (λ (n : ℕ). drop n (take c.numbers_span-span.result.start c.args.room.now
    ++ (c.read_line.new.out ++ drop (c.numbers_span-span.result.end - c.numbers_span-span.result.start)
    (drop c.numbers_span-span.result.start c.args.room.now))) ≡ drop n c.args.room.now) same h
