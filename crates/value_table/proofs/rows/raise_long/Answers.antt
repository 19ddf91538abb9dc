use Rattle.std.proofs.lemmas.Grind.{common_steps}
use Rattle.std.proofs.Common.{◌≡◌, ◌∙◌, ◌+◌, ◌-◌, ◌*◌, ◌+ℤ◌, ℤ, pos, ap, arith, map, length, take, drop, get_or}
use Rattle.std.specs.Int.{int_max}
use Rattle.std.proofs.lemmas.List.{length-take-le, length-drop}
use mir.Val.{to_z, of_z}
use mir.Syntax.{w64}
use Rattle.value_table.proofs.NumberParts.{read-number}
use Rattle.value_table.proofs.RowSteps.{slice-more, row-room}
use Rattle.value_table.proofs.rows.raise_long.Goals as goal

pub loop-row-preserved : goal.loop-row-preserved
loop-row-preserved c =
    let worth = to_z w64 (of_z w64 c.args.worth) in
    let number = (λ (z : ℤ). z) in
    let rows = c.args.rows.now in
    let line = c.loop-row.line in
    let below = c.args.below.now in
    let at = c.loop-row.row * rows.width in
    let k = at + rows.run - at in
    let room = row-room rows c.loop-row.row (length line) c.loop-row-test.true (omega (arith, c.requires.rows, c.loop-row.auto.line)) in
    let mid : length (take k (drop at line)) ≡ k = length-take-le k (drop at line) (omega (arith, room, length-drop at line)) in
    slice-more number rows c.args.rows.now.inside below c.args.line.now line c.raise_run.new.line worth c.loop-row.row k (omega arith)
    c.loop-row-test.true (omega (arith, c.requires.rows, c.loop-row.auto.line)) (c.raise_run.auto.line ∙ mid)
    (λ i h. c.raise_run.ensures i (omega (arith, h, mid))
    ∙ ap (λ (z : ℤ). int_max z (worth +ℤ get_or (map number (take k (drop at below))) i (pos 0))) (read-number number line at k i (omega (arith, h)))
    ∙ ap (λ (z : ℤ). int_max (get_or (map number line) (at + i) (pos 0)) (worth +ℤ z)) (read-number number below at k i (omega (arith, h))))
    c.loop-row.invariant

pub raise_run-requires-clause-sizes : goal.raise_run-requires-clause-sizes
raise_run-requires-clause-sizes c = grind (arith, common_steps)
