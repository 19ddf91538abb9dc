use Rattle.std.proofs.Common.{map, rules}
use Rattle.auction_model.proofs.WalkLaws.{walk-by}
use Rattle.std.proofs.lemmas.Int.{to_z-of_z}
use Rattle.value_table.specs.Counted.{counted_bids, counted}
use mir.Val.{SFits}
use mir.Syntax.{w128}
use Rattle.value_table.proofs.tracing.next_step.Goals as goal

pub returns-clause-walk : goal.returns-clause-walk
returns-clause-walk g c = λ r h.
    let l = c.args.lowered.now in
    let here_fits : SFits w128 c.args.here = search rules in
    walk-by (counted_bids l) (counted l) l.book.now.supply c.args.j c.args.place c.requires.bidder.0 c.requires.bidder.1 c.requires.place
    c.args.here (map g.C.Cell.number c.args.below.now)
    c.requires.here c.requires.below c.first_number-number.result r c.first_number-number.ensures.known
    (rw (to_z-of_z w128 c.args.here here_fits) at c.first_number-number.ensures.first)
    (rw c.place_left-place.ensures.place at h)
