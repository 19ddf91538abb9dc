use Rattle.std.proofs.Common.{◌≡◌, ◌∙◌, ◌<◌, arith, rules, get_or, length, map, pos}
use Rattle.std.proofs.lemmas.Int.{to_z-of_z}
use Rattle.std.proofs.lemmas.List.{length-map, map-set}
use Rattle.value_table.proofs.Places.{copied-more, copied-all}
use mir.Val.{SFits}
use mir.Syntax.{w128}
use Rattle.value_table.proofs.widths.narrow_into.Goals as goal

pub narrowed-requires-clause-size : goal.narrowed-requires-clause-size
narrowed-requires-clause-size g c =
    let z = get_or c.args.line.now c.loop-i.i (pos 0) in
    let given : SFits w128 z = search rules in
    rw (to_z-of_z w128 z given) (c.requires.sizes c.loop-i.i)

pub narrowed-requires-clause-sign : goal.narrowed-requires-clause-sign
narrowed-requires-clause-sign g c =
    let z = get_or c.args.line.now c.loop-i.i (pos 0) in
    let given : SFits w128 z = search rules in
    rw (to_z-of_z w128 z given) (c.requires.signs c.loop-i.i)

pub loop-i-preserved : goal.loop-i-preserved
loop-i-preserved g c =
    let number = g.C.Cell.number in
    let numbers = c.loop-i.numbers in
    let at = c.loop-i.i in
    let made = c.narrowed.result in
    let z = get_or c.args.line.now at (pos 0) in
    let given : SFits w128 z = search rules in
    let is : number made ≡ z = c.narrowed.ensures ∙ to_z-of_z w128 z given in
    let inside : at < length (map number numbers) = omega (arith, length-map numbers number) in
    rw (map-set number numbers at made) (copied-more (map number numbers) c.args.line.now at (number made) inside c.loop-i.invariant is)

pub returns : goal.returns
returns g c =
    let number = g.C.Cell.number in
    let same = length-map c.loop-i.numbers number in
    copied-all (map number c.loop-i.numbers) c.args.line.now c.loop-i.i (omega (arith, same)) (omega arith) c.loop-i.invariant
