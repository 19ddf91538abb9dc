use Rattle.std.proofs.Common.{◌≡◌, ◌∙◌, ◌+◌, ◌-◌, ◌*◌, ◌≤◌, ◌<◌, arith, rules, get_or, length, take, drop}
use Rattle.std.proofs.lemmas.Grind.{common_steps}
use Rattle.auction_model.proofs.RunLaws.{widths-count}
use Rattle.choices.specs.Coarse.{HasMask}
use Rattle.choices.proofs.CoarseLaws.{mask-down}
use Rattle.value_table.proofs.CoarseBlocks.{units-part, units-put}
use borrow.Rule.Slice.PartMut.{mid_len}
use Rattle.value_table.proofs.BlockLaws.{block-asks, block-grows, first-inside, reached-none, raised-first, raised-more, raised-whole, row-within}
use Rattle.value_table.proofs.tested.+raise_coarse.Goals as goal

pub bounds-block-0 : goal.bounds-block-0
bounds-block-0 g t c =
    let b = c.args.block.now in
    rw b.is.widths (omega (arith, widths-count b.supply.now, b.is.some, b.is.categories))

pub is_reached-requires-clause-first : goal.is_reached-requires-clause-first
is_reached-requires-clause-first g t c =
    let b = c.args.block.now in
    first-inside g.C.Cell.number g.C.Cell.most b.supply.now b.widths.now b.counts.now b.first b.is c.args.line.now c.args.below.now c.args.worth
    c.requires.lines

pub is_reached-requires-clause-lines : goal.is_reached-requires-clause-lines
is_reached-requires-clause-lines g t c = rw c.requires.lines.line c.requires.lines

pub returns-then-is_reached-clause-line : goal.returns-then-is_reached-clause-line
returns-then-is_reached-clause-line g t c =
    let b = c.args.block.now in
    reached-none g.C.Cell.number g.C.Cell.most b.supply.now b.widths.now b.counts.now b.first b.is c.args.line.now c.args.below.now c.args.worth
    c.requires.lines c.requires.grow (c.is_reached.ensures.0 c.if-is_reached.true)

pub loop-row-init : goal.loop-row-init
loop-row-init g t c =
    let b = c.args.block.now in
    record {
      raised = raised-first g.C.Cell.number g.C.Cell.most b.supply.now b.widths.now b.counts.now b.first b.is c.args.line.now c.args.below.now c.args.worth
          c.requires.lines;
      units = c.requires.units;
    }

pub overflow_mul-to : goal.overflow_mul-to
overflow_mul-to g t c =
    let b = c.args.block.now in
    omega (arith, row-within b.supply.now b.widths.now b.counts.now b.first b.is c.loop-row.row c.loop-row-test.true, b.is.states)

pub overflow_mul-from : goal.overflow_mul-from
overflow_mul-from g t c =
    let b = c.args.block.now in
    omega (arith, row-within b.supply.now b.widths.now b.counts.now b.first b.is (c.loop-row.row - get_or b.counts.now 0 0) (omega (arith, c.loop-row-test.true)), b.is.states)

pub offset_bounds-line-to : goal.offset_bounds-line-to
offset_bounds-line-to g t c = grind (arith, common_steps)

pub offset_bounds-below-from : goal.offset_bounds-below-from
offset_bounds-below-from g t c =
    let b = c.args.block.now in
    omega (
      arith,
      c.requires.lines.places,
      row-within b.supply.now b.widths.now b.counts.now b.first b.is (c.loop-row.row - get_or b.counts.now 0 0) (omega (arith, c.loop-row-test.true)),
    )

pub raise_coarse-more-requires : goal.raise_coarse-more-requires
raise_coarse-more-requires g t c =
    let number = g.C.Cell.number in
    let coarse = c.args.coarse.now in
    let b = c.args.block.now in
    let q = c.loop-row.row in
    let line = c.loop-row.line in
    let S = get_or b.widths.now 0 0 in
    let from = (q - get_or b.counts.now 0 0) * S in
    let some : 0 < length b.supply.now = omega (arith, b.is.some, b.is.categories) in
    let asks = block-asks number g.C.Cell.most b.supply.now b.widths.now b.counts.now b.first b.is c.args.line.now c.args.below.now
    c.args.worth c.requires.lines q line c.loop-row-test.true c.loop-row.auto.line in
    let grow = block-grows number g.C.Cell.most b.supply.now b.widths.now b.counts.now b.first b.is c.args.line.now c.args.below.now
    c.args.worth c.requires.lines q line c.loop-row.auto.row c.loop-row-test.true c.loop-row.invariant.raised.rest c.requires.grow in
    let units = units-part number coarse.shift line c.args.below.now c.loop-row.low c.args.high.now (q * S) from (q * S + S - q * S) (from + S - from)
    (omega (
      arith,
      row-within b.supply.now b.widths.now b.counts.now b.first b.is q c.loop-row-test.true,
      c.loop-row.auto.line,
      c.requires.lines.line,
    ))
    (omega (
      arith,
      row-within b.supply.now b.widths.now b.counts.now b.first b.is (q - get_or b.counts.now 0 0) (omega (arith, c.loop-row-test.true)),
      c.requires.lines.places,
    )) c.loop-row.invariant.units in
    let mask : HasMask coarse.level c.rest-rest.result.supply.now c.rest-rest.result.counts.now coarse.mask.now =
    rw (c.rest-rest.ensures.supply, c.rest-rest.ensures.counts) (mask-down coarse.level b.supply.now b.counts.now coarse.mask.now b.is.some some c.requires.mask) in
    λ lifetimes h. (search rules, (search rules, (rw c.rest-rest.ensures.supply asks, (rw c.rest-rest.ensures.supply grow, (units, (c.requires.worth, mask))))))

pub loop-row-preserved : goal.loop-row-preserved
loop-row-preserved g t c =
    let number = g.C.Cell.number in
    let b = c.args.block.now in
    let q = c.loop-row.row in
    let line = c.loop-row.line in
    let made = c.raise_coarse-more.new.line in
    let S = get_or b.widths.now 0 0 in
    let k = q * S + S - q * S in
    let from = (q - get_or b.counts.now 0 0) * S in
    let some : 0 < length b.supply.now = omega (arith, b.is.some, b.is.categories) in
    let room : q * S + S ≤ length line =
    omega (
      arith,
      row-within b.supply.now b.widths.now b.counts.now b.first b.is q c.loop-row-test.true,
      c.loop-row.auto.line,
      c.requires.lines.line,
    ) in
    let count : length made ≡ k = c.raise_coarse-more.auto.line ∙ mid_len (q * S) (q * S + S) line room in
    let call = rw (c.rest-rest.ensures.supply, c.rest-rest.ensures.counts) at c.raise_coarse-more.ensures.line in
    record {
      raised = raised-more number g.C.Cell.most b.supply.now b.widths.now b.counts.now b.first b.is c.args.line.now c.args.below.now c.args.worth
          c.requires.lines q line made c.loop-row.auto.row c.loop-row-test.true c.loop-row.auto.line c.raise_coarse-more.auto.line call
          c.loop-row.invariant.raised;
      units = units-put number c.args.coarse.now.shift line made c.args.below.now (take (from + S - from) (drop from c.args.below.now)) c.loop-row.low
          c.raise_coarse-more.new.low c.args.high.now (take (from + S - from) (drop from c.args.high.now)) (q * S) k (omega (arith, room)) count
          c.loop-row.invariant.units c.raise_coarse-more.ensures.units;
    }

pub returns-clause-line : goal.returns-clause-line
returns-clause-line g t c =
    let b = c.args.block.now in
    raised-whole g.C.Cell.number g.C.Cell.most b.supply.now b.widths.now b.counts.now b.first b.is c.args.line.now c.args.below.now c.args.worth
    c.requires.lines c.loop-row.row c.loop-row.line c.loop-row-test.false c.loop-row.invariant.raised

pub slice_bounds-raise_coarse-end : goal.slice_bounds-raise_coarse-end
slice_bounds-raise_coarse-end g t c = grind (arith, common_steps)

pub slice_bounds-raise_coarse-end-in-loop-row : goal.slice_bounds-raise_coarse-end-in-loop-row
slice_bounds-raise_coarse-end-in-loop-row g t c = grind (arith, common_steps)

pub slice_bounds-raise_coarse-end-in-loop-row-2 : goal.slice_bounds-raise_coarse-end-in-loop-row-2
slice_bounds-raise_coarse-end-in-loop-row-2 g t c = grind (arith, common_steps)

pub slice_bounds-raise_coarse-end-in-loop-row-3 : goal.slice_bounds-raise_coarse-end-in-loop-row-3
slice_bounds-raise_coarse-end-in-loop-row-3 g t c = grind (arith, common_steps)
