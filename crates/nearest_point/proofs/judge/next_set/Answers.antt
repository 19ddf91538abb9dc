use Rattle.std.proofs.Common.{rules}
use Rattle.nearest_point.proofs.judge.next_set.Goals as goal

pub returns : goal.returns
returns c = record { signs = c.has_signs.ensures (search rules); meets = c.meets_all.ensures (search rules) }
