use Rattle.std.proofs.Common.{rules, arith, ◌-◌, get_or, pos, refl, ap, subst, List, ℤ, FitsSigned, to_z, of_z}
use Rattle.std.specs.Int.{w128}
use Rattle.std.proofs.lemmas.Int.{to_z-of_z}
use Rattle.outcome.specs.Fractions.{IsFractionOf}
use Rattle.outcome.proofs.WinnerLaws.{winner-in, bid-in, gross-is, is-price}
use Rattle.outcome.proofs.prices.winner_price.Goals as goal

pub reserve-reserve-requires-clause-bidder : goal.reserve-reserve-requires-clause-bidder
reserve-reserve-requires-clause-bidder c =
    let winner = c.requires.winner in
    (winner.bidder.0, winner-in c.args.book.now c.args.facts.now.choice c.requires.facts.known c.args.single.now.winner winner.bidder.0 winner.bidder.1)

pub reserve-reserve-requires-clause-bid : goal.reserve-reserve-requires-clause-bid
reserve-reserve-requires-clause-bid c =
    let winner = c.requires.winner in
    let inside = bid-in c.args.book.now c.args.facts.now.choice c.requires.facts.known c.args.single.now.winner winner.bidder.0 winner.bidder.1 winner.wins in
    (omega (arith, inside.0, c.number-bid.ensures), omega (arith, inside.1, c.number-bid.ensures))

pub returns : goal.returns
returns c =
    let facts = c.args.facts.now in
    let paid = get_or c.items.result.now (c.args.single.now.winner - 1) (pos 0) in
    let paid-fits : FitsSigned w128 (get_or c.items.result.now (c.args.single.now.winner - 1) (pos 0)) = search rules in
    let den-fits : FitsSigned w128 c.args.facts.now.den = search rules in
    let net : IsFractionOf paid facts.den c.new.result =
    subst (λ (d : ℤ). IsFractionOf paid d c.new.result) (to_z-of_z w128 facts.den den-fits)
    (subst (λ (n : ℤ). IsFractionOf n (to_z w128 (of_z w128 facts.den)) c.new.result) (to_z-of_z w128 paid paid-fits) c.new.ensures.fraction) in
    is-price c.args.book.now facts c.args.single.now c.requires.winner.price_small _ paid refl c.number-bid.ensures c.reserve-reserve.ensures.reserve
    (gross-is c.args.single.now.price c.reserve-reserve.result c.requires.winner.price_small c.reserve-reserve.type_inv)
    c.reserve-reserve.ensures.small
    (ap (λ (l : List ℤ). get_or l (c.args.single.now.winner - 1) (pos 0)) c.items.ensures) (c.plus.ensures paid facts.den net)
