use Rattle.std.proofs.Common.{rules, ◌≡◌, ◌∙◌, ◌+◌, ap, arith, ◌≤◌, ◌-ℤ◌, length, ℕ, subst}
use Rattle.std.proofs.lemmas.Int.{to_z-of_z}
use Rattle.auction_model.specs.Place.{states_of}
use Rattle.auction_model.specs.Book.{bids_of}
use Rattle.auction_model.proofs.PlaceLaws.{states-positive}
use Rattle.cert_soundness.specs.Tests.{states}
use Rattle.cert_soundness.proofs.Winning.{allowed-length}
use Rattle.cert_check.specs.EarlierBids.{IsLeft}
use Rattle.cert_check.proofs.EarlierLaws.{left-start, left-known, left-own, left-next}
use mir.Val.{SFits, to_z}
use mir.Syntax.{w128}
use Rattle.cert_check.proofs.tables.earlier.left_before.Goals as goal
use Rattle.cert_check.proofs.tables.earlier.left_before.Goals.{After-number-own}

pub overflow_sub-rest : goal.overflow_sub-rest
overflow_sub-rest c = omega (arith, c.states-rest.ensures.states, states-positive c.supply.result.now)

pub loop-k-init : goal.loop-k-init
loop-k-init c =
    let book = c.args.book.now in
    let value_fits : SFits w128 c.args.value = search rules in
    let states_is : c.states-rest.result ≡ states book = c.states-rest.ensures.states ∙ ap states_of c.supply.ensures.supply in
    rw (to_z-of_z w128 c.args.value value_fits, states_is) (left-start book c.args.choice.now c.args.value
    (allowed-length book c.args.choice.now c.requires.allowed) c.requires.allowed c.requires.value)

known : (c : After-number-own) → c.number-own.result ≤ length (bids_of c.args.book.now (c.loop-k.k + 1))
known c =
    let book = c.args.book.now in
    let value_fits : SFits w128 c.args.value = search rules in
    let so = rw (to_z-of_z w128 c.args.value value_fits) at c.loop-k.invariant in
    left-known book c.args.choice.now c.args.value (allowed-length book c.args.choice.now c.requires.allowed) c.loop-k.k c.loop-k.rest
    (c.loop-k.k + 1) c.number-own.result (to_z w128 c.loop-k.bound-bits)
    (omega (arith, c.loop-k-test.true, c.requires.bidder.1)) so (omega arith) c.number-own.ensures

pub rest_after-rest-requires-clause-bid : goal.rest_after-rest-requires-clause-bid
rest_after-rest-requires-clause-bid c = known c

pub rest_after-rest-requires-clause-fits : goal.rest_after-rest-requires-clause-fits
rest_after-rest-requires-clause-fits c =
    let book = c.args.book.now in
    let value_fits : SFits w128 c.args.value = search rules in
    let so = rw (to_z-of_z w128 c.args.value value_fits) at c.loop-k.invariant in
    left-own book c.args.choice.now c.args.value (allowed-length book c.args.choice.now c.requires.allowed) c.loop-k.k c.loop-k.rest
    (c.loop-k.k + 1) c.number-own.result (to_z w128 c.loop-k.bound-bits)
    (omega (arith, c.loop-k-test.true, c.requires.bidder.1)) so (omega arith) c.number-own.ensures

pub worth-bound-requires-clause-bid : goal.worth-bound-requires-clause-bid
worth-bound-requires-clause-bid c =
    let book = c.args.book.now in
    let value_fits : SFits w128 c.args.value = search rules in
    let so = rw (to_z-of_z w128 c.args.value value_fits) at c.loop-k.invariant in
    left-known book c.args.choice.now c.args.value (allowed-length book c.args.choice.now c.requires.allowed) c.loop-k.k c.loop-k.rest
    (c.loop-k.k + 1) c.number-own.result (to_z w128 c.loop-k.bound-bits)
    (omega (arith, c.loop-k-test.true, c.requires.bidder.1)) so (omega arith) c.number-own.ensures

pub loop-k-preserved : goal.loop-k-preserved
loop-k-preserved c =
    let book = c.args.book.now in
    let value_fits : SFits w128 c.args.value = search rules in
    let so = rw (to_z-of_z w128 c.args.value value_fits) at c.loop-k.invariant in
    let bound = to_z w128 c.loop-k.bound-bits in
    let net_fits : SFits w128 c.worth-bound.result = search rules in
    let next = left-next book c.args.choice.now c.args.value (allowed-length book c.args.choice.now c.requires.allowed) c.loop-k.k c.loop-k.rest
    (c.loop-k.k + 1) c.number-own.result c.rest_after-rest.result bound c.worth-bound.result
    (omega (arith, c.loop-k-test.true, c.requires.bidder.1)) so (omega arith) c.number-own.ensures c.rest_after-rest.ensures.left c.worth-bound.ensures.worth
    c.worth-bound.ensures.size in
    let size = so.size in
    let small = c.worth-bound.ensures.size in
    let left_fits : SFits w128 (to_z w128 c.loop-k.bound-bits -ℤ c.worth-bound.result) = search (rules, size, small) in
    simp to_z-of_z next

pub returns : goal.returns
returns c =
    let value_fits : SFits w128 c.args.value = search rules in
    let so = rw (to_z-of_z w128 c.args.value value_fits) at c.loop-k.invariant in
    let bound = to_z w128 c.loop-k.bound-bits in
    subst (λ (n : ℕ). IsLeft c.args.book.now c.args.choice.now c.args.value n c.loop-k.rest bound) (omega arith) so
