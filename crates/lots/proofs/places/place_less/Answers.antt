use Rattle.std.proofs.Common.{◌∙◌, sym, IsTrue, arith}
use Rattle.auction_model.specs.Package.{is_within}
use Rattle.auction_model.specs.Place.{left_at}
use Rattle.auction_model.proofs.PlaceLaws.{left_at-within, within-within, place-less}
use Rattle.lots.proofs.places.place_less.Goals as goal
use Rattle.lots.proofs.places.place_less.Goals.{After-place_among}

pub place_among-requires-clause-fits : goal.place_among-requires-clause-fits
place_among-requires-clause-fits c =
    let fits : IsTrue (is_within c.args.counts.now (left_at c.args.supply.now c.args.place)) = sym c.leaves_enough.ensures ∙ c.if-leaves_enough.true in
    within-within c.args.counts.now (left_at c.args.supply.now c.args.place) c.args.supply.now fits
    (left_at-within c.args.supply.now c.args.place (omega arith))

pub overflow_sub-result : goal.overflow_sub-result
overflow_sub-result c =
    let fits : IsTrue (is_within c.args.counts.now (left_at c.args.supply.now c.args.place)) = sym c.leaves_enough.ensures ∙ c.if-leaves_enough.true in
    omega (arith, place-less c.args.supply.now c.args.counts.now c.args.place (omega arith) fits)

pub returns-then-leaves_enough-clause-left : goal.returns-then-leaves_enough-clause-left
returns-then-leaves_enough-clause-left c =
    let fits : IsTrue (is_within c.args.counts.now (left_at c.args.supply.now c.args.place)) = sym c.leaves_enough.ensures ∙ c.if-leaves_enough.true in
    omega (arith, place-less c.args.supply.now c.args.counts.now c.args.place (omega arith) fits)
