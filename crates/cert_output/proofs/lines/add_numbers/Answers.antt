use Rattle.std.proofs.Common.{◌≤◌, ◌-◌, drop, take, ap, arith, subst, sym}
use Rattle.std.proofs.lemmas.List.{drop_all}
use Rattle.choices.specs.LentLines.{numbers_of}
use Rattle.line_format.specs.Numeral.{numbers_text}
use Rattle.line_format.specs.Range.{AllInRange}
use Rattle.cert_text.proofs.SpelledLaws.{range-part}
use Rattle.cert_output.proofs.LinePieces.{numbers-split}
use Rattle.cert_output.proofs.Waiting.{so-far-begins, so-far-ends, so-far-goes-on, so-far-stops}
use Rattle.cert_output.proofs.lines.add_numbers.Goals as goal

pub loop-done-init : goal.loop-done-init
loop-done-init g c = record {
  so_far = so-far-begins c.args.name.now (g.F.Files.folder c.args.files.now) c.args.room.now c.args.begun
      (numbers_text (numbers_of c.args.numbers)) c.requires.known c.requires.waiting;
  inside = omega arith;
  count = c.count-count.ensures;
}

pub add_piece-requires-clause-known : goal.add_piece-requires-clause-known
add_piece-requires-clause-known g c = c.loop-done.invariant.so_far.known

pub add_piece-requires-clause-waiting : goal.add_piece-requires-clause-waiting
add_piece-requires-clause-waiting g c = c.loop-done.invariant.so_far.within

pub add_piece-requires-clause-range : goal.add_piece-requires-clause-range
add_piece-requires-clause-range g c =
    subst AllInRange (sym c.part_of.ensures)
    (range-part (numbers_of c.args.numbers) c.loop-done.done (c.min-end.result - c.loop-done.done) c.requires.range)

pub loop-done-preserved : goal.loop-done-preserved
loop-done-preserved g c =
    let on : c.loop-done.done ≤ c.min-end.result = omega (arith, c.min-end.ensures, c.loop-done-test.true) in
    record {
      so_far = so-far-goes-on c.args.name.now (g.F.Files.folder c.args.files.now) (g.F.Files.folder c.loop-done.files) (take c.args.begun c.args.room.now) c.loop-done.room c.loop-done.waiting
          (numbers_text (drop c.loop-done.done (numbers_of c.args.numbers))) (numbers_text (numbers_of c.args.numbers)) (g.F.Files.folder c.add_piece.new.files) c.add_piece.new.room c.in-Ok.now
          (numbers_text (take (c.min-end.result - c.loop-done.done) (drop c.loop-done.done (numbers_of c.args.numbers))))
          (numbers_text (drop c.min-end.result (numbers_of c.args.numbers)))
          (numbers-split (numbers_of c.args.numbers) c.loop-done.done c.min-end.result on) c.loop-done.invariant.so_far
          (rw c.part_of.ensures at c.in-Ok.ensures);
      inside = omega (arith, c.min-end.ensures);
      count = c.loop-done.invariant.count;
    }

pub returns-in-Err : goal.returns-in-Err
returns-in-Err g c =
    let on : c.loop-done.done ≤ c.min-end.result = omega (arith, c.min-end.ensures, c.loop-done-test.true) in
    so-far-stops c.args.name.now (g.F.Files.folder c.args.files.now) (g.F.Files.folder c.loop-done.files) (take c.args.begun c.args.room.now) c.loop-done.room c.loop-done.waiting
    (numbers_text (drop c.loop-done.done (numbers_of c.args.numbers))) (numbers_text (numbers_of c.args.numbers)) (g.F.Files.folder c.add_piece.new.files)
    (numbers_text (take (c.min-end.result - c.loop-done.done) (drop c.loop-done.done (numbers_of c.args.numbers))))
    (numbers_text (drop c.min-end.result (numbers_of c.args.numbers)))
    (numbers-split (numbers_of c.args.numbers) c.loop-done.done c.min-end.result on) c.loop-done.invariant.so_far
    (rw c.part_of.ensures at c.in-Err.ensures)

pub returns : goal.returns
returns g c =
    so-far-ends c.args.name.now (g.F.Files.folder c.args.files.now) (g.F.Files.folder c.loop-done.files) (take c.args.begun c.args.room.now) c.loop-done.room c.loop-done.waiting
    (numbers_text (drop c.loop-done.done (numbers_of c.args.numbers))) (numbers_text (numbers_of c.args.numbers))
    (ap numbers_text (drop_all c.loop-done.done (numbers_of c.args.numbers) (omega (arith, c.loop-done-test.false, c.loop-done.invariant.count))))
    c.loop-done.invariant.so_far
