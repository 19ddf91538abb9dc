use Rattle.std.proofs.Common.{◌≡◌, ℕ, ◌+◌, ◌≤◌, List, ◌++◌, length, get_or, subst, ◌∙◌, arith, rules}
use Rattle.cert_stream.specs.declared.line.Outcome.TheVariants.{Open}
use Rattle.cert_stream.specs.Pieces.{between}
use Rattle.cert_stream.specs.LineParts.{IsPart, Becomes}
use Rattle.line_format.proofs.Lines.{line_append}
use Rattle.cert_stream.proofs.Runs.{between_join, part_join, part_next, line_next, reads_stop}
use Rattle.line_format.specs.LineText.{IsLine}
use Rattle.cert_stream.proofs.line.read_line.Goals as goal

pub take-outcome-requires-clause-part : goal.take-outcome-requires-clause-part
take-outcome-requires-clause-part c =
    let old = c.requires.part in
    (_, c.take_front-end.ensures.part c.args.word.now (old.0 ++ between c.args.at c.loop-end.end c.args.piece.now) (c.loop-end.invariant.part old.0 old.1))

pub loop-end-preserved : goal.loop-end-preserved
loop-end-preserved c = record {
  part = λ bytes is. part_join c.args.word.now c.args.form c.take_front-end.new.self c.take_front-end.new.out bytes c.args.piece.now c.args.at c.loop-end.end
      c.take_front-end.result c.loop-end.invariant.from c.take_front-end.ensures.from
      (c.take_front-end.ensures.part c.args.word.now (bytes ++ between c.args.at c.loop-end.end c.args.piece.now) (c.loop-end.invariant.part bytes is));
  line = subst IsLine (between_join c.args.at c.loop-end.end c.take_front-end.result c.args.piece.now c.loop-end.invariant.from c.take_front-end.ensures.from)
      (line_append (between c.args.at c.loop-end.end c.args.piece.now) (between c.loop-end.end c.take_front-end.result c.args.piece.now)
      c.loop-end.invariant.line c.take_front-end.ensures.line);
  from = omega (arith, c.loop-end.invariant.from, c.take_front-end.ensures.from);
  within = c.take_front-end.ensures.to;
  room = c.take_front-end.ensures.room ∙ c.loop-end.invariant.room;
}

pub returns-then-ne-clause-line : goal.returns-then-ne-clause-line
returns-then-ne-clause-line c = subst IsLine (between_join c.args.at c.loop-end.end c.take_front-end.result c.args.piece.now c.loop-end.invariant.from
    c.take_front-end.ensures.from) (line_append (between c.args.at c.loop-end.end c.args.piece.now)
    (between c.loop-end.end c.take_front-end.result c.args.piece.now) c.loop-end.invariant.line c.take_front-end.ensures.line)

pub returns-then-ne-clause-reads : goal.returns-then-ne-clause-reads
returns-then-ne-clause-reads c = λ bytes is.
    let digits = part_join c.args.word.now c.args.form c.take_front-end.new.self c.take_front-end.new.out bytes c.args.piece.now c.args.at c.loop-end.end
    c.take_front-end.result c.loop-end.invariant.from c.take_front-end.ensures.from
    (c.take_front-end.ensures.part c.args.word.now (bytes ++ between c.args.at c.loop-end.end c.args.piece.now) (c.loop-end.invariant.part bytes is)) in
    let other : c.take-outcome.result ≡ Open → ⊥ = search rules in
    reads_stop c.args.word.now c.args.form c.take-outcome.new.self c.take-outcome.new.out bytes c.args.piece.now c.args.at c.take_front-end.result
    c.take-outcome.result other (omega arith)
    (c.take-outcome.ensures.becomes (bytes ++ between c.args.at c.take_front-end.result c.args.piece.now) digits)

pub loop-end-preserved-then-end-piece : goal.loop-end-preserved-then-end-piece
loop-end-preserved-then-end-piece c =
    let lt : c.take_front-end.result + 1 ≤ length c.args.piece.now = omega arith in
    let from : c.args.at ≤ c.take_front-end.result = omega (arith, c.loop-end.invariant.from, c.take_front-end.ensures.from) in
    let goes : c.take-outcome.result ≡ Open = search rules in
    let digits = λ (bytes : List ℕ) (is : IsPart c.args.word.now c.args.form c.args.part c.args.out.now bytes). part_join c.args.word.now c.args.form
    c.take_front-end.new.self c.take_front-end.new.out bytes c.args.piece.now c.args.at c.loop-end.end c.take_front-end.result c.loop-end.invariant.from
    c.take_front-end.ensures.from
    (c.take_front-end.ensures.part c.args.word.now (bytes ++ between c.args.at c.loop-end.end c.args.piece.now) (c.loop-end.invariant.part bytes is)) in
    let becomes = λ (bytes : List ℕ) (is : IsPart c.args.word.now c.args.form c.args.part c.args.out.now bytes).
    subst (Becomes c.args.word.now c.args.form c.take-outcome.new.self c.take-outcome.new.out
    (bytes ++ between c.args.at c.take_front-end.result c.args.piece.now) (get_or c.args.piece.now c.take_front-end.result 0)) goes
    (c.take-outcome.ensures.becomes (bytes ++ between c.args.at c.take_front-end.result c.args.piece.now) (digits bytes is)) in
    record {
      part = λ bytes is. part_next c.args.word.now c.args.form c.take-outcome.new.self c.take-outcome.new.out bytes c.args.piece.now c.args.at
          c.take_front-end.result from (omega (arith, lt)) (becomes bytes is).1;
      line = line_next c.args.word.now c.args.form c.args.piece.now c.args.at c.take_front-end.result from (omega (arith, lt))
          (becomes c.requires.part.0 c.requires.part.1).0
          (subst IsLine (between_join c.args.at c.loop-end.end c.take_front-end.result c.args.piece.now c.loop-end.invariant.from
          c.take_front-end.ensures.from) (line_append (between c.args.at c.loop-end.end c.args.piece.now)
          (between c.loop-end.end c.take_front-end.result c.args.piece.now) c.loop-end.invariant.line c.take_front-end.ensures.line));
      from = omega (arith, from);
      within = lt;
      room = c.take-outcome.ensures.room ∙ c.take_front-end.ensures.room ∙ c.loop-end.invariant.room;
    }
