use Rattle.std.proofs.Common.{◌≡◌, ◌∙◌, ap, sym, arith, rules, get_or, map, pos}
use Rattle.std.proofs.lemmas.Int.{to_z-of_z}
use Rattle.std.proofs.lemmas.List.{length-map, get_or-map}
use mir.Val.{SFits, to_z, of_z}
use mir.Syntax.{w128}
use Rattle.value_table.proofs.Places.{copied-more, copied-all}
use Rattle.value_table.proofs.widths.widen_into.Goals as goal

pub loop-i-preserved : goal.loop-i-preserved
loop-i-preserved g c =
    let number = g.C.Cell.number in
    let line = c.args.line.now in
    let at = c.loop-i.i in
    let fits : SFits w128 c.wide.result = search rules in
    let made = to_z w128 (of_z w128 c.wide.result) in
    let read = get_or-map number line at c.index-line-i.result (pos 0) c.loop-i-test.true ∙ ap number (sym c.index-line-i.is) in
    let is : made ≡ get_or (map number line) at (pos 0) = to_z-of_z w128 c.wide.result fits ∙ c.wide.ensures ∙ sym read in
    copied-more c.loop-i.numbers (map number line) at made (omega arith) c.loop-i.invariant is

pub returns : goal.returns
returns g c =
    let number = g.C.Cell.number in
    let line = c.args.line.now in
    let same = length-map line number in
    copied-all c.loop-i.numbers (map number line) c.loop-i.i (omega (arith, same)) (omega (arith, same)) c.loop-i.invariant
