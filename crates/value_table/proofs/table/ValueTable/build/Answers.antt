use Rattle.std.proofs.Common.{rules}
use Rattle.std.proofs.lemmas.Int.{to_z-of_z}
use Rattle.value_table.proofs.LoweredLaws.{table-from}
use mir.Val.{SFits}
use mir.Syntax.{w128}
use Rattle.value_table.proofs.table.ValueTable.build.Goals as goal

pub new-lowered-requires-clause-range : goal.new-lowered-requires-clause-range
new-lowered-requires-clause-range c =
    let den_fits : SFits w128 c.args.den = search rules in
    rw (to_z-of_z w128 c.args.den den_fits) c.requires.range

pub returns-clause-exact : goal.returns-clause-exact
returns-clause-exact c =
    let den_fits : SFits w128 c.args.den = search rules in
    let same = to_z-of_z w128 c.args.den den_fits in
    rw (same, c.in_ok-surplus.ensures.items) (record {
      bidders = c.requires.surplus;
      range = c.requires.range;
      exact = table-from c.args.book.now c.args.skip c.args.den c.args.surplus.now c.new-lowered.result (rw same at c.new-lowered.ensures) c.in_ok-grid.grid
          c.in_ok-grid.ensures;
    })
