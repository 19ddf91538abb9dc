use Rattle.std.proofs.lemmas.Grind.{common_steps}
use Rattle.std.proofs.Common.{arith, rules}
use Rattle.std.proofs.lemmas.Int.{to_z-of_z}
use Rattle.table_check.proofs.CornerLaws.{end-keeps}
use mir.Val.{SFits}
use mir.Syntax.{w64}
use Rattle.table_check.proofs.blocks.one_holds.Goals as goal

pub returns : goal.returns
returns c = λ h.
    let worth = c.args.rule.now.worth in
    let block = c.args.block.now in
    let fits : SFits w64 worth = search rules in
    end-keeps block.supply.now block.widths.now block.lots.now block.first c.place-from.result c.args.line.now c.args.below.now worth block.is c.requires.one
    c.place-from.ensures.place c.requires.places (λ s lt. rw (to_z-of_z w64 worth fits) at (c.covers_all.ensures h s lt))

pub covers_all-requires-clause-small : goal.covers_all-requires-clause-small
covers_all-requires-clause-small c = grind (arith, common_steps)

pub covers_all-requires-clause-small_below : goal.covers_all-requires-clause-small_below
covers_all-requires-clause-small_below c = grind (arith, common_steps)
