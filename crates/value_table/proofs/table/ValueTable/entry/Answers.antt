use Rattle.std.proofs.Common.{◌<◌, sym, subst, length, get_or, []}
use Rattle.value_table.specs.TableValue.{TableValue}
use Rattle.value_table.proofs.table.ValueTable.entry.Goals as goal

pub entry-requires-clause-place : goal.entry-requires-clause-place
entry-requires-clause-place c =
    let k = c.args.k in
    let place = c.args.place in
    let lines = c.self.inside.grid in
    let known : k < length lines = subst (λ (t : TableValue). k < length t.lines) (sym c.self.view_is) c.requires.line in
    let inside : place < length (get_or lines k []) = subst (λ (t : TableValue). place < length (get_or t.lines k [])) (sym c.self.view_is)
    c.requires.place in
    subst (λ n. place < n) (c.kept.ensures k known) inside
