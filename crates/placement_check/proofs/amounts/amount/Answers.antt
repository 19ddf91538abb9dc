use Rattle.std.proofs.Common.{sym, arith}
use Rattle.std.proofs.lemmas.Int.{ints}
use Rattle.placement_check.proofs.AmountLaws.{amount-past, amount-most}
use Rattle.placement_check.proofs.amounts.amount.Goals as goal

pub returns-then-i-places-clause-amount : goal.returns-then-i-places-clause-amount
returns-then-i-places-clause-amount c = sym (amount-past c.args.slots.now c.args.j c.args.i (omega (arith, c.places.ensures.bids)))

pub returns-clause-most : goal.returns-clause-most
returns-clause-most c =
    let most = amount-most c.args.slots.now c.kept.ensures c.args.j c.args.i c.requires.0 c.requires.1 in
    omega (arith, ints, most, c.place-place.ensures.amount)
