use Rattle.value_table.proofs.Lanes.{sums-fit, four-before, four-raised, four-behind}
use Rattle.value_table.proofs.rows.raise_four.Goals as goal

pub overflow_add-sums : goal.overflow_add-sums
overflow_add-sums c = sums-fit c.args.line.now c.args.below.now c.args.at c.args.worth c.requires.room c.requires.places c.requires.worth c.requires.sizes

pub returns-clause-before : goal.returns-clause-before
returns-clause-before c = four-before c.args.line.now c.args.below.now c.args.at c.args.worth c.requires.room c.requires.places

pub returns-clause-raised : goal.returns-clause-raised
returns-clause-raised c = four-raised c.args.line.now c.args.below.now c.args.at c.args.worth c.requires.room c.requires.places

pub returns-clause-behind : goal.returns-clause-behind
returns-clause-behind c = four-behind c.args.line.now c.args.below.now c.args.at c.args.worth c.requires.room c.requires.places
