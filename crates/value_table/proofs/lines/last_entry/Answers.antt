use Rattle.std.proofs.Common.{◌≡◌, ◌∙◌, ◌-◌, ap, subst, arith, rules, get_or, []}
use Rattle.std.proofs.lemmas.Int.{to_z-of_z}
use Rattle.auction_model.specs.Place.{left_at, states_of}
use Rattle.auction_model.specs.Table.{IsEntry}
use Rattle.auction_model.proofs.PlaceLaws.{left_at-whole, states-positive}
use Rattle.value_table.specs.Counted.{counted_bids, counted}
use Rattle.value_table.proofs.Sizes.{line-small}
use mir.Val.{SFits}
use mir.Syntax.{w128}
use Rattle.value_table.proofs.lines.last_entry.Goals as goal

pub overflow_sub-states : goal.overflow_sub-states
overflow_sub-states c = omega (arith, c.states.ensures.states, states-positive c.supply.result.now)

pub entry-requires-clause-place : goal.entry-requires-clause-place
entry-requires-clause-place c =
    let supply = c.args.lowered.now.book.now.supply in
    let line = c.requires.exact 0 (omega arith) in
    let states : c.states.result ≡ states_of supply = c.states.ensures.states ∙ ap states_of c.supply.ensures.supply in
    omega (arith, states, line.places, states-positive supply)

pub returns-clause-most : goal.returns-clause-most
returns-clause-most c =
    let l = c.args.lowered.now in
    let supply = l.book.now.supply in
    let last = c.states.result - 1 in
    let z = c.entry.result in
    let z_fits : SFits w128 z = search rules in
    let states : c.states.result ≡ states_of supply = c.states.ensures.states ∙ ap states_of c.supply.ensures.supply in
    let line = c.requires.exact 0 (omega arith) in
    let e : IsEntry (counted_bids l) (counted l) 0 (left_at supply last) z = rw c.entry.ensures
    (line.exact last (omega (arith, states, states-positive supply))) in
    let whole : left_at supply last ≡ supply = ap (λ n. left_at supply (n - 1)) states ∙ left_at-whole supply in
    rw (to_z-of_z w128 z z_fits) (subst (λ left. IsEntry (counted_bids l) (counted l) 0 left z) whole e)

pub returns-clause-size : goal.returns-clause-size
returns-clause-size c =
    let l = c.args.lowered.now in
    let z = c.entry.result in
    let z_fits : SFits w128 z = search rules in
    rw (to_z-of_z w128 z z_fits, c.entry.ensures)
    (line-small l 0 (get_or c.args.lines.now 0 []) (c.requires.exact 0 (omega arith)) (c.states.result - 1))
