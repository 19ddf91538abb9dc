use Rattle.std.proofs.Common.{◌≡◌, ◌∙◌, ap, arith}
use Rattle.auction_model.specs.Place.{states_of}
use Rattle.auction_model.proofs.PlaceLaws.{left_at-whole, states-positive}
use Rattle.choices.proofs.listing.first_by_listing.Goals as goal

pub overflow_sub-whole : goal.overflow_sub-whole
overflow_sub-whole c = omega (arith, c.states-whole.ensures.states, states-positive c.supply.result.now)

pub first_after-requires-clause-place : goal.first_after-requires-clause-place
first_after-requires-clause-place c =
    let supply = c.args.book.now.supply in
    let states : c.states-whole.result ≡ states_of supply = c.states-whole.ensures.states ∙ ap states_of c.supply.ensures.supply in
    omega (arith, states, states-positive supply)

pub returns : goal.returns
returns c =
    let supply = c.args.book.now.supply in
    let states : c.states-whole.result ≡ states_of supply = c.states-whole.ensures.states ∙ ap states_of c.supply.ensures.supply in
    rw c.new.ensures (rw (states, left_at-whole) at c.in_ok-best.ensures.first)
