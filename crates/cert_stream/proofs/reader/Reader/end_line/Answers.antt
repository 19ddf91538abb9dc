use Rattle.std.proofs.Common.{◌≡◌, ℕ, sym, ap, take, get_or, pos, rules, subst, FitsSigned}
use Rattle.std.specs.Int.{w128}
use Rattle.std.proofs.lemmas.Int.{to_z-of_z}
use Rattle.cert_stream.specs.Dues.{word_of, IsKnown, Follows}
use Rattle.cert_stream.specs.LinesLeft.{Tells, HasDue, ComesNext}
use Rattle.cert_stream.specs.Order.{ComesBehind}
use Rattle.cert_stream.specs.Rooms.{form_due, start_due}
use Rattle.cert_stream.proofs.Standing.{ends_out, ends_in, ends_known, to_due, reads_on}
use Rattle.cert_stream.proofs.reader.Reader.end_line.Goals as goal

pub returns-then-self-clause-stands : goal.returns-then-self-clause-stands
returns-then-self-clause-stands c = λ text items is.
    let r = c.args.self.now in
    ends_out r.shape.bidders r.shape.states r.due r.part r.place r.read c.args.room.now text items is c.if-self.true

pub returns-clause-stands : goal.returns-clause-stands
returns-clause-stands c = λ text items is.
    let b = c.args.self.now.shape.bidders in
    let s = c.args.self.now.shape.states in
    let f : FitsSigned w128 (get_or c.args.room.now c.numbers_span-span.result.start (pos 0)) = search rules in
    let at : get_or c.args.room.now (start_due b s c.args.self.now.due) (pos 0) ≡ get_or c.args.room.now c.numbers_span-span.result.start (pos 0) =
    ap (λ (n : ℕ). get_or c.args.room.now n (pos 0)) (sym c.numbers_span-span.ensures.start) in
    let known = ends_known b s c.args.self.now.due c.args.self.now.part c.args.self.now.place c.args.self.now.read c.args.room.now text items is _
    c.if-self.false at in
    let next : IsKnown c.args.self.now.due is.whole.numbers (take b c.args.room.now) (get_or c.args.room.now c.numbers_span-span.result.start (pos 0))
    → Follows b s (take b c.args.room.now) c.args.self.now.due is.whole.numbers c.next-self.result =
    simp to_z-of_z at (c.next-self.ensures.next is.whole.numbers (to_due b s c.args.self.now.due is.whole.numbers is.whole.fit)) in
    reads_on b s c.next-self.result c.new-self.result c.args.self.now.read c.args.self.now.read c.args.room.now _ _ c.args.self.now.stop c.requires.reading (
    ends_in b s c.args.self.now.due c.args.self.now.part c.args.self.now.place c.args.self.now.read c.args.room.now text items is c.next-self.result
    c.new-self.result c.if-self.false (next known) c.next-self.ensures.due
    (λ out. c.new-self.ensures (word_of c.next-self.result) (form_due b s c.next-self.result) out)
    )

pub next-self-requires-clause-numbers : goal.next-self-requires-clause-numbers
next-self-requires-clause-numbers c =
    let b = c.args.self.now.shape.bidders in
    let s = c.args.self.now.shape.states in
    let text = c.requires.ends.0 in
    let items = c.requires.ends.1 in
    let is = c.requires.ends.2 in
    let f : FitsSigned w128 (get_or c.args.room.now c.numbers_span-span.result.start (pos 0)) = search rules in
    let at : get_or c.args.room.now (start_due b s c.args.self.now.due) (pos 0) ≡ get_or c.args.room.now c.numbers_span-span.result.start (pos 0) =
    ap (λ (n : ℕ). get_or c.args.room.now n (pos 0)) (sym c.numbers_span-span.ensures.start) in
    let known = ends_known b s c.args.self.now.due c.args.self.now.part c.args.self.now.place c.args.self.now.read c.args.room.now text items is _
    c.if-self.false at in
    simp to_z-of_z (is.whole.numbers, to_due b s c.args.self.now.due is.whole.numbers is.whole.fit, known)

pub returns-clause-next : goal.returns-clause-next
returns-clause-next c = λ none cert kept tells has.
    let b = c.args.self.now.shape.bidders in
    let s = c.args.self.now.shape.states in
    let is = c.requires.ends.2 in
    let first = get_or c.args.room.now c.numbers_span-span.result.start (pos 0) in
    let f : FitsSigned w128 (get_or c.args.room.now c.numbers_span-span.result.start (pos 0)) = search rules in
    let told : Tells cert c.args.self.now.due (take b c.args.room.now) (get_or c.args.room.now c.numbers_span-span.result.start (pos 0)) =
    subst (λ (n : ℕ). Tells cert c.args.self.now.due (take b c.args.room.now) (get_or c.args.room.now n (pos 0)))
    (sym c.numbers_span-span.ensures.start) tells in
    let left : Tells cert c.args.self.now.due (take b c.args.room.now) (get_or c.args.room.now c.numbers_span-span.result.start (pos 0))
    → HasDue b s cert c.args.self.now.due → ComesNext b s cert c.args.self.now.due c.next-self.result =
    simp to_z-of_z at (c.next-self.ensures.left is.some cert kept) in
    left told has

pub returns-clause-order : goal.returns-clause-order
returns-clause-order c = λ none.
    let b = c.args.self.now.shape.bidders in
    let s = c.args.self.now.shape.states in
    let f : FitsSigned w128 (get_or c.args.room.now c.numbers_span-span.result.start (pos 0)) = search rules in
    let own : ComesBehind b (take b c.args.room.now) (get_or c.args.room.now c.numbers_span-span.result.start (pos 0)) c.args.self.now.due
    c.next-self.result = simp to_z-of_z at c.next-self.ensures.order in
    subst (λ (n : ℕ). ComesBehind b (take b c.args.room.now) (get_or c.args.room.now n (pos 0)) c.args.self.now.due c.next-self.result)
    c.numbers_span-span.ensures.start own
