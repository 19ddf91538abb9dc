use Rattle.std.proofs.Common.{arith, ◌-◌}
use Rattle.cert_text.proofs.SpelledLaws.{next-piece, range-part}
use Rattle.cert_text.proofs.fields.add_fields.Goals as goal

pub add_piece-requires-clause-range : goal.add_piece-requires-clause-range
add_piece-requires-clause-range c = range-part c.args.numbers.now c.loop-done.done (c.min-end.result - c.loop-done.done) c.requires

pub loop-done-preserved : goal.loop-done-preserved
loop-done-preserved c = record {
  written = next-piece c.args.numbers.now c.loop-done.done c.min-end.result _ c.loop-done.text c.add_piece.new.text
      (omega (arith, c.min-end.ensures)) c.loop-done.invariant.written c.in_ok-add_piece.ensures;
  within = omega (arith, c.min-end.ensures);
}
