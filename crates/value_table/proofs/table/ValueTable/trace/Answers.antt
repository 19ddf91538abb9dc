use Rattle.std.proofs.Common.{sym, subst}
use Rattle.value_table.specs.Counted.{IsCountedTable}
use Rattle.value_table.specs.TableValue.{TableValue}
use Rattle.value_table.proofs.LoweredLaws.{first-from, table-of}
use Rattle.value_table.proofs.table.ValueTable.trace.Goals as goal

pub trace_lines-requires : goal.trace_lines-requires
trace_lines-requires c =
    let l = c.lowered_bids-lowered.result in
    let t = c.args.self.now in
    subst (λ (v : TableValue). IsCountedTable l v.lines) (sym c.self.view_is)
    (table-of c.args.book.now t.skip t.den t.surplus l c.lowered_bids-lowered.ensures t.lines c.requires.exact)

pub returns : goal.returns
returns c =
    let t = c.args.self.now in
    rw c.new.ensures (first-from c.args.book.now t.skip t.den t.surplus c.lowered_bids-lowered.result c.lowered_bids-lowered.ensures c.in_ok-numbers.numbers
    c.in_ok-numbers.ensures)
