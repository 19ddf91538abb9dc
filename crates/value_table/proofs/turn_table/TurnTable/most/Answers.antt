use Rattle.std.proofs.Common.{sym, subst, rules}
use Rattle.std.proofs.lemmas.Int.{to_z-of_z}
use Rattle.value_table.specs.Counted.{IsCountedTable}
use Rattle.value_table.specs.TableValue.{TableValue}
use Rattle.value_table.proofs.LoweredLaws.{entry-from, table-of}
use mir.Val.{SFits}
use mir.Syntax.{w128}
use Rattle.value_table.proofs.turn_table.TurnTable.most.Goals as goal

pub most-requires : goal.most-requires
most-requires c =
    let l = c.lowered_bids-lowered.result in
    let t = c.args.self.now in
    subst (λ (v : TableValue). IsCountedTable l v.lines) (sym c.self.view_is)
    (table-of c.args.book.now t.skip t.den t.surplus l c.lowered_bids-lowered.ensures t.lines c.requires.exact)

pub returns-clause-most : goal.returns-clause-most
returns-clause-most c =
    let t = c.args.self.now in
    let z = c.most.result in
    let z_fits : SFits w128 z = search rules in
    rw (to_z-of_z w128 z z_fits)
    (entry-from c.args.book.now t.skip t.den t.surplus c.lowered_bids-lowered.result c.lowered_bids-lowered.ensures z c.most.ensures.most)
