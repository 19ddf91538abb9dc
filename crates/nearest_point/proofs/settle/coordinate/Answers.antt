use Rattle.nearest_point.proofs.Leaves.{moved_back, moved_fits, moved_small}
use Rattle.nearest_point.proofs.settle.coordinate.Goals as goal

pub overflow_add-result : goal.overflow_add-result
overflow_add-result c = moved_fits c.args.den c.args.aim c.args.moved c.args.weight c.requires.den.0 c.requires.den.1 c.requires.aim c.requires.weight
    c.requires.moved

pub returns-clause-value : goal.returns-clause-value
returns-clause-value c = moved_back c.args.den c.args.aim c.args.moved c.args.weight c.requires.den.0 c.requires.den.1 c.requires.aim c.requires.weight
    c.requires.moved

pub returns-clause-small : goal.returns-clause-small
returns-clause-small c =
    rw (moved_back c.args.den c.args.aim c.args.moved c.args.weight c.requires.den.0 c.requires.den.1 c.requires.aim c.requires.weight c.requires.moved)
    (moved_small c.args.den c.args.aim c.args.moved c.args.weight c.requires.den.0 c.requires.den.1 c.requires.aim c.requires.weight c.requires.moved)
