use Rattle.std.proofs.Common.{take, arith, rules}
use Rattle.std.proofs.lemmas.List.{take_more_set}
use Rattle.line_format.proofs.Lines.{none-so}
use Rattle.edits_file.proofs.FieldLaws.{counts_more, counts_stop}
use Rattle.edits_file.proofs.fields.read_counts.Goals as goal

pub returns-in_err-count-clause-none : goal.returns-in_err-count-clause-none
returns-in_err-count-clause-none c =
    none-so c.from_residual.result _
    (counts_stop c.loop-i.i c.args.categories c.args.text.now (take c.loop-i.i c.loop-i.counts) c.loop-i.rest.now c.loop-i-test.true
    c.loop-i.invariant.front c.in_err-count.ensures.none)

pub loop-i-preserved : goal.loop-i-preserved
loop-i-preserved c = record {
  room = search rules;
  front = rw (take_more_set c.loop-i.counts c.loop-i.i _ (omega arith))
      (counts_more c.loop-i.i c.in_ok-count.count c.args.text.now (take c.loop-i.i c.loop-i.counts) c.loop-i.rest.now c.in_ok-count.more.now
      c.loop-i.invariant.front c.in_ok-count.ensures.found);
}
