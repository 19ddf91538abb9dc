use Rattle.nearest_point.proofs.Judging.{sized}
use Rattle.nearest_point.proofs.guess.take_step.Goals as goal

pub next_set-requires-clause-sized : goal.next_set-requires-clause-sized
next_set-requires-clause-sized c =
    let settled = rw c.in-Some.is at c.in_ok-held.ensures in
    sized c.args.target.now c.args.weights.now c.args.rows.now c.args.places.now c.in-Some.held c.requires.problem settled
