use Rattle.std.proofs.Common.{rules}
use Rattle.line_format.proofs.NumberRuns.{next_run, tail_range}
use Rattle.line_format.proofs.write.add_signed_numbers.Goals as goal

pub add_run-requires-clause-range : goal.add_run-requires-clause-range
add_run-requires-clause-range c = tail_range c.args.numbers.now c.loop-done.done c.requires

pub loop-done-preserved : goal.loop-done-preserved
loop-done-preserved c = record {
  written = next_run c.args.numbers.now c.loop-done.done c.in_ok-done.field-0 _ c.loop-done.text c.add_run.new.text c.loop-done.invariant.written
      c.in_ok-done.ensures.added;
  within = search rules;
}
