use Rattle.std.proofs.lemmas.Grind.{common_steps}
use Rattle.std.proofs.Common.{arith}
use Rattle.bid_book.proofs.read.fields.lot_counts.Goals as goal

pub returns-then-number-gt-MOST_COUNT-clause-form : goal.returns-then-number-gt-MOST_COUNT-clause-form
returns-then-number-gt-MOST_COUNT-clause-form c = grind (arith, common_steps)

pub loop-number-preserved : goal.loop-number-preserved
loop-number-preserved c = grind (arith, common_steps)

pub returns-clause-ok : goal.returns-clause-ok
returns-clause-ok c = grind (arith, common_steps)
