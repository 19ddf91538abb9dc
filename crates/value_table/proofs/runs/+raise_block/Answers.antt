use Rattle.std.proofs.Common.{◌-◌, arith, rules, get_or}
use Rattle.std.proofs.lemmas.Grind.{common_steps}
use Rattle.auction_model.proofs.RunLaws.{widths-count}
use Rattle.value_table.proofs.BlockLaws.{block-asks, block-grows, first-inside, reached-none, raised-first, raised-more, raised-whole, row-within}
use Rattle.value_table.proofs.runs.+raise_block.Goals as goal

pub bounds-block-0 : goal.bounds-block-0
bounds-block-0 g t c =
    let b = c.args.block.now in
    rw b.is.widths (omega (arith, widths-count b.supply.now, b.is.some, b.is.categories))

pub is_reached-requires-clause-first : goal.is_reached-requires-clause-first
is_reached-requires-clause-first g t c =
    let b = c.args.block.now in
    first-inside g.C.Cell.number g.C.Cell.most b.supply.now b.widths.now b.counts.now b.first b.is c.args.line.now c.args.below.now c.args.worth
    c.requires.lines

pub is_reached-requires-clause-lines : goal.is_reached-requires-clause-lines
is_reached-requires-clause-lines g t c = rw c.requires.lines.line c.requires.lines

pub returns-then-is_reached : goal.returns-then-is_reached
returns-then-is_reached g t c =
    let b = c.args.block.now in
    reached-none g.C.Cell.number g.C.Cell.most b.supply.now b.widths.now b.counts.now b.first b.is c.args.line.now c.args.below.now c.args.worth
    c.requires.lines c.requires.grow (c.is_reached.ensures.0 c.if-is_reached.true)

pub loop-row-init : goal.loop-row-init
loop-row-init g t c =
    let b = c.args.block.now in
    raised-first g.C.Cell.number g.C.Cell.most b.supply.now b.widths.now b.counts.now b.first b.is c.args.line.now c.args.below.now c.args.worth
    c.requires.lines

pub overflow_mul-to : goal.overflow_mul-to
overflow_mul-to g t c =
    let b = c.args.block.now in
    omega (arith, row-within b.supply.now b.widths.now b.counts.now b.first b.is c.loop-row.row c.loop-row-test.true, b.is.states)

pub overflow_mul-from : goal.overflow_mul-from
overflow_mul-from g t c =
    let b = c.args.block.now in
    omega (arith, row-within b.supply.now b.widths.now b.counts.now b.first b.is (c.loop-row.row - get_or b.counts.now 0 0) (omega (arith, c.loop-row-test.true)), b.is.states)

pub offset_bounds-line-to : goal.offset_bounds-line-to
offset_bounds-line-to g t c = grind (arith, common_steps)

pub offset_bounds-below-from : goal.offset_bounds-below-from
offset_bounds-below-from g t c =
    let b = c.args.block.now in
    omega (
      arith,
      c.requires.lines.places,
      row-within b.supply.now b.widths.now b.counts.now b.first b.is (c.loop-row.row - get_or b.counts.now 0 0) (omega (arith, c.loop-row-test.true)),
    )

pub raise_block-requires : goal.raise_block-requires
raise_block-requires g t c =
    let b = c.args.block.now in
    let q = c.loop-row.row in
    let line = c.loop-row.line in
    let asks = block-asks g.C.Cell.number g.C.Cell.most b.supply.now b.widths.now b.counts.now b.first b.is c.args.line.now c.args.below.now
    c.args.worth c.requires.lines q line c.loop-row-test.true c.loop-row.auto.line in
    let grow = block-grows g.C.Cell.number g.C.Cell.most b.supply.now b.widths.now b.counts.now b.first b.is c.args.line.now c.args.below.now
    c.args.worth c.requires.lines q line c.loop-row.auto.row c.loop-row-test.true c.loop-row.invariant.rest c.requires.grow in
    λ lifetimes h. (search rules, (search rules, (rw c.rest-rest.ensures.supply asks, rw c.rest-rest.ensures.supply grow)))

pub loop-row-preserved : goal.loop-row-preserved
loop-row-preserved g t c =
    let b = c.args.block.now in
    let call = rw (c.rest-rest.ensures.supply, c.rest-rest.ensures.counts) at c.raise_block.ensures in
    raised-more g.C.Cell.number g.C.Cell.most b.supply.now b.widths.now b.counts.now b.first b.is c.args.line.now c.args.below.now c.args.worth
    c.requires.lines c.loop-row.row c.loop-row.line c.raise_block.new.line c.loop-row.auto.row c.loop-row-test.true
    c.loop-row.auto.line c.raise_block.auto.line call c.loop-row.invariant

pub returns : goal.returns
returns g t c =
    let b = c.args.block.now in
    raised-whole g.C.Cell.number g.C.Cell.most b.supply.now b.widths.now b.counts.now b.first b.is c.args.line.now c.args.below.now c.args.worth
    c.requires.lines c.loop-row.row c.loop-row.line c.loop-row-test.false c.loop-row.invariant

pub slice_bounds-raise_block-end : goal.slice_bounds-raise_block-end
slice_bounds-raise_block-end g t c = grind (arith, common_steps)

pub slice_bounds-raise_block-end-in-loop-row : goal.slice_bounds-raise_block-end-in-loop-row
slice_bounds-raise_block-end-in-loop-row g t c = grind (arith, common_steps)
