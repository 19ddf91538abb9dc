use Rattle.nearest_point.proofs.Whole.{owed_top}
use Rattle.nearest_point.proofs.search_all.Goals as goal

pub search_from-requires-clause-owed : goal.search_from-requires-clause-owed
search_from-requires-clause-owed c = owed_top c.args.target.now c.args.rows.now c.requires.problem.members c.requires.problem.row_bounds
