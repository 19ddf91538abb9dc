use Rattle.std.proofs.Common.{rules}
use Rattle.std.proofs.lemmas.Int.{to_z-of_z}
use mir.Val.{SFits}
use mir.Syntax.{w128}
use Rattle.cert_check.proofs.FieldLaws.{table-of}
use Rattle.cert_check.proofs.whole.tables.value_test.Goals as goal

pub returns : goal.returns
returns c = λ cert choice_is value_is table_is.
    let value_fits : SFits w128 c.args.value = search rules in
    table-of c.args.book.now cert c.args.value c.args.choice.now c.args.table.now c.value_fault.result choice_is value_is table_is
    (rw (to_z-of_z w128 c.args.value value_fits) at c.value_fault.ensures)
