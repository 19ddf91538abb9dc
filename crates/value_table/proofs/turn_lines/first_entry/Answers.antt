use Rattle.std.proofs.Common.{◌≡◌, ◌∙◌, ◌-◌, ap, subst, arith, rules, get_or, length, map, ℤ, pos, [], List}
use Rattle.std.proofs.lemmas.Int.{to_z-of_z}
use Rattle.std.proofs.lemmas.List.{length-map}
use Rattle.auction_model.specs.Place.{left_at, states_of}
use Rattle.auction_model.specs.Table.{IsEntry}
use Rattle.auction_model.proofs.PlaceLaws.{left_at-whole, states-positive}
use Rattle.value_table.specs.Counted.{counted_bids, counted, IsCountedLine}
use Rattle.value_table.proofs.Sizes.{line-small}
use Rattle.value_table.proofs.TableLines.{entries}
use mir.Val.{SFits}
use mir.Syntax.{w128}
use Rattle.value_table.proofs.turn_lines.first_entry.Goals as goal

pub overflow_sub-states : goal.overflow_sub-states
overflow_sub-states g c = omega (arith, c.states.ensures.states, states-positive c.supply.result.now)

pub line_at-requires : goal.line_at-requires
line_at-requires g c = omega (arith, c.requires.lines, length-map c.args.lines.now (entries g.C.Cell.number))

pub number_at-requires : goal.number_at-requires
number_at-requires g c =
    let supply = c.args.lowered.now.book.now.supply in
    let number = g.C.Cell.number in
    let line = c.requires.exact 0 (omega arith) in
    let states : c.states.result ≡ states_of supply = c.states.ensures.states ∙ ap states_of c.supply.ensures.supply in
    let width : length (map number c.line_at.result.now) ≡ states_of supply = ap (λ (l : List ℤ). length l) c.line_at.ensures ∙ line.places in
    omega (arith, states, width, length-map c.line_at.result.now number, states-positive supply)

pub returns-clause-most : goal.returns-clause-most
returns-clause-most g c =
    let l = c.args.lowered.now in
    let supply = l.book.now.supply in
    let last = c.states.result - 1 in
    let z = c.number_at.result in
    let z_fits : SFits w128 z = search rules in
    let states : c.states.result ≡ states_of supply = c.states.ensures.states ∙ ap states_of c.supply.ensures.supply in
    let line = c.requires.exact 0 (omega arith) in
    let is : z ≡ get_or (get_or (map (entries g.C.Cell.number) c.args.lines.now) 0 []) last (pos 0) =
    c.number_at.ensures ∙ ap (λ (x : List ℤ). get_or x last (pos 0)) c.line_at.ensures in
    let e : IsEntry (counted_bids l) (counted l) 0 (left_at supply last) z = rw is (line.exact last (omega (arith, states, states-positive supply))) in
    let whole : left_at supply last ≡ supply = ap (λ n. left_at supply (n - 1)) states ∙ left_at-whole supply in
    rw (to_z-of_z w128 z z_fits) (subst (λ left. IsEntry (counted_bids l) (counted l) 0 left z) whole e)

pub returns-clause-size : goal.returns-clause-size
returns-clause-size g c =
    let l = c.args.lowered.now in
    let z = c.number_at.result in
    let z_fits : SFits w128 z = search rules in
    let number = g.C.Cell.number in
    let own : IsCountedLine l 0 (map number c.line_at.result.now) = rw c.line_at.ensures (c.requires.exact 0 (omega arith)) in
    rw (to_z-of_z w128 z z_fits, c.number_at.ensures) (line-small l 0 (map number c.line_at.result.now) own (c.states.result - 1))
