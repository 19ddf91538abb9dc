use Rattle.std.proofs.Common.{sym, subst}
use Rattle.value_table.specs.Counted.{IsCountedTable}
use Rattle.value_table.specs.TableValue.{TableValue}
use Rattle.value_table.proofs.LoweredLaws.{table-of}
use Rattle.value_table.proofs.turn_table.TurnTable.grid.Goals as goal

pub grid-requires : goal.grid-requires
grid-requires c =
    let l = c.lowered_bids-lowered.result in
    let t = c.args.self.now in
    subst (λ (v : TableValue). IsCountedTable l v.lines) (sym c.self.view_is)
    (table-of c.args.book.now t.skip t.den t.surplus l c.lowered_bids-lowered.ensures t.lines c.requires.exact)
