use Rattle.std.proofs.Common.{length}
use Rattle.nearest_point.specs.Found.{row_of}
use Rattle.nearest_point.proofs.Vectors.{independent_le}
use Rattle.nearest_point.proofs.settle.settle.Goals as goal

pub settle_if_independent-requires-clause-few : goal.settle_if_independent-requires-clause-few
settle_if_independent-requires-clause-few c = independent_le (length c.args.target.now) (length c.args.forced.now)
    (row_of c.args.rows.now c.args.forced.now) c.requires.independent

pub unreachable-requires : goal.unreachable-requires
unreachable-requires c = let none = rw c.in-None.is at c.in_ok-held.ensures in none c.requires.independent
