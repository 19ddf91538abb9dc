use Rattle.std.proofs.Common.{◌≡◌, ◌∷◌, ◌++◌, [], arith, ap, rules}
use Rattle.std.specs.Prelude.{None}
use Rattle.std.specs.Option.{is_some}
use Rattle.cert_stream.specs.Dues.{line_with}
use Rattle.stream_check.proofs.CheckLaws.{with-reader, set-up, stopped-for, stands-failed, the-step, stands-next}
use Rattle.stream_check.proofs.check.StreamCheck.end_line.Goals as goal

pub returns-then-is_some-clause-stands : goal.returns-then-is_some-clause-stands
returns-then-is_some-clause-stands c = λ text items (set, ends, known).
    stopped-for (with-reader c.args.self.now c.end_line.new.self) c.args.room.now (text ++ 10 ∷ [])
    (items ++ line_with c.args.self.now.reader.due ends.whole.numbers ∷ [])
    (λ none. cc (c.is_some.ensures, c.if-is_some.true, ap is_some none)) (set-up c.args.self.now set c.end_line.new.self c.end_line.ensures.shape)
    (c.end_line.ensures.stands text items ends)

pub returns-then-is_some-2-clause-stands : goal.returns-then-is_some-2-clause-stands
returns-then-is_some-2-clause-stands c = λ text items (set, ends, known).
    stands-failed c.args.self.now set c.end_line.new.self c.args.room.now text items (line_with c.args.self.now.reader.due ends.whole.numbers)
    (λ none. cc (c.is_some-2.ensures, c.if-is_some-2.true, ap is_some none)) c.end_line.ensures.shape known (c.end_line.ensures.stands text items ends)

pub judged-found-requires : goal.judged-found-requires
judged-found-requires c =
    let text = c.requires.ends.0 in
    let items = c.requires.ends.1 in
    let (set, ends, known) = c.requires.ends.2 in
    let on : c.end_line.new.self.stop ≡ None = search rules in
    let none : c.args.self.now.failed ≡ None = search rules in
    (the-step c.args.self.now set c.end_line.new.self c.args.room.now text items c.count-count.result
    (omega (arith, c.kept.ensures.bidders)) c.count-count.ensures none on c.end_line.ensures.shape ends known
    (c.end_line.ensures.beyond on) (c.end_line.ensures.next on) (c.end_line.ensures.order on) (c.end_line.ensures.stands text items ends)).possible

pub totals_after-totals-requires : goal.totals_after-totals-requires
totals_after-totals-requires c =
    let text = c.requires.ends.0 in
    let items = c.requires.ends.1 in
    let (set, ends, known) = c.requires.ends.2 in
    let on : c.end_line.new.self.stop ≡ None = search rules in
    let none : c.args.self.now.failed ≡ None = search rules in
    (the-step c.args.self.now set c.end_line.new.self c.args.room.now text items c.count-count.result
    (omega (arith, c.kept.ensures.bidders)) c.count-count.ensures none on c.end_line.ensures.shape ends known
    (c.end_line.ensures.beyond on) (c.end_line.ensures.next on) (c.end_line.ensures.order on) (c.end_line.ensures.stands text items ends)).possible

pub returns-clause-stands : goal.returns-clause-stands
returns-clause-stands c = λ text items (set, ends, known).
    let on : c.end_line.new.self.stop ≡ None = search rules in
    let none : c.args.self.now.failed ≡ None = search rules in
    stands-next c.args.self.now set c.end_line.new.self c.args.room.now text items c.count-count.result
    (omega (arith, c.kept.ensures.bidders)) c.count-count.ensures none on c.end_line.ensures.shape ends known
    (c.end_line.ensures.beyond on) (c.end_line.ensures.next on) (c.end_line.ensures.order on) (c.end_line.ensures.stands text items ends)
    c.judged-found.result.failed c.judged-found.result.late c.members_after-members.result c.judged-found.result.grows c.totals_after-totals.result
    (λ cert at next. (
      (c.judged-found.ensures cert c.end_line.new.self.due at next).0,
      c.members_after-members.ensures cert c.end_line.new.self.due at next,
      c.totals_after-totals.ensures cert c.end_line.new.self.due at next,
      (c.judged-found.ensures cert c.end_line.new.self.due at next).1,
    ))
