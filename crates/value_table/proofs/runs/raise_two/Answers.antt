use Rattle.std.proofs.Common.{◌∙◌, ◌+◌, ◌-◌, ◌*◌, ◌≤◌, arith, length, drop, get_or}
use Rattle.std.proofs.lemmas.Grind.{common_steps}
use Rattle.std.proofs.lemmas.List.{length-drop, length-take-le}
use Rattle.auction_model.proofs.RunLaws.{widths-count}
use Rattle.value_table.proofs.NumberParts.{small-numbers}
use Rattle.value_table.proofs.RowSteps.{skip-less, start-inside, left-rows, two-back}
use Rattle.value_table.proofs.runs.raise_two.Goals as goal

pub offset_bounds-line-from : goal.offset_bounds-line-from
offset_bounds-line-from g c =
    let b = c.args.block.now in
    let inside = start-inside b.supply.now b.widths.now b.counts.now b.is.widths c.requires.two b.is.categories
    b.is.fits in
    let room : get_or b.counts.now 0 0 * get_or b.widths.now 0 0 + get_or b.counts.now 1 0 * get_or b.widths.now 1 0
    ≤ length c.args.line.now = omega (arith, inside, c.requires.lines.line) in
    grind (arith, common_steps, room)

pub invariant_of-rows : goal.invariant_of-rows
invariant_of-rows g c =
    let b = c.args.block.now in
    let less = skip-less b.supply.now b.widths.now b.counts.now b.is.widths c.requires.two (omega (
      arith,
      c.requires.two,
      b.is.categories,
    )) b.is.fits in
    record { some = (omega arith, omega (arith, less)); inside = omega arith }

pub raise_rows-requires-clause-rows : goal.raise_rows-requires-clause-rows
raise_rows-requires-clause-rows g c =
    let b = c.args.block.now in
    let supply = b.supply.now in
    let widths = b.widths.now in
    let counts = b.counts.now in
    let line = c.args.line.now in
    let start = get_or counts 0 0 * get_or widths 0 0 + get_or counts 1 0 * get_or widths 1 0 in
    let k = length line - start in
    length-take-le k (drop start line) (omega (arith, length-drop start line)) ∙ omega (
      arith,
      c.requires.lines.line,
      left-rows supply widths counts
          b.is.widths c.requires.two b.is.categories b.is.fits,
    )

pub raise_rows-requires-clause-sizes : goal.raise_rows-requires-clause-sizes
raise_rows-requires-clause-sizes g c =
    let b = c.args.block.now in
    let widths = b.widths.now in
    let counts = b.counts.now in
    let start = get_or counts 0 0 * get_or widths 0 0 + get_or counts 1 0 * get_or widths 1 0 in
    small-numbers g.C.Cell.number c.args.below.now 0 (length c.args.line.now - start) g.C.Cell.most c.requires.lines.sizes

pub returns : goal.returns
returns g c =
    let b = c.args.block.now in
    let line = c.args.line.now in
    let start = get_or b.counts.now 0 0 * get_or b.widths.now 0 0 + get_or b.counts.now 1 0 * get_or b.widths.now 1 0 in
    let k = length line - start in
    two-back b.supply.now b.widths.now b.counts.now b.is.widths c.requires.two b.is.categories b.is.fits
    g.C.Cell.number (g.C.Cell.number c.args.worth) line c.args.below.now c.raise_rows.new.line k c.requires.lines.line (omega arith)
    (c.raise_rows.auto.line ∙ length-take-le k (drop start line) (omega (arith, length-drop start line)))
    c.raise_rows.ensures.raised c.raise_rows.ensures.kept

pub overflow_mul-skip : goal.overflow_mul-skip
overflow_mul-skip g c = grind (arith, common_steps)

pub overflow_mul-from : goal.overflow_mul-from
overflow_mul-from g c = grind (arith, common_steps)

pub overflow_add-from : goal.overflow_add-from
overflow_add-from g c = grind (arith, common_steps)

pub overflow_sub-rows : goal.overflow_sub-rows
overflow_sub-rows g c = grind (arith, common_steps)

pub overflow_sub-rows-2 : goal.overflow_sub-rows-2
overflow_sub-rows-2 g c = grind (arith, common_steps)

pub slice_bounds-raise_rows-count : goal.slice_bounds-raise_rows-count
slice_bounds-raise_rows-count g c = grind (arith, common_steps)

pub slice_bounds-raise_rows-start : goal.slice_bounds-raise_rows-start
slice_bounds-raise_rows-start g c = grind (arith, common_steps)

pub slice_bounds-raise_rows-count-2 : goal.slice_bounds-raise_rows-count-2
slice_bounds-raise_rows-count-2 g c = grind (arith, common_steps)

pub bounds-block-0 : goal.bounds-block-0
bounds-block-0 g c =
    let b = c.args.block.now in
    rw b.is.widths (omega (arith, widths-count b.supply.now, b.is.some, b.is.categories))
