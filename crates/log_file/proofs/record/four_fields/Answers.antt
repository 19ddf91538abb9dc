use Rattle.std.proofs.Common.{arith}
use Rattle.csv.specs.Records.{fields_of}
use Rattle.log_file.proofs.RowFields.{four_are}
use Rattle.log_file.proofs.record.four_fields.Goals as goal

pub returns-clause-found : goal.returns-clause-found
returns-clause-found c = four_are (fields_of c.args.row.now) _ _ _ _ (omega (arith, c.len.ensures, c.if-len-ne4.false)) c.field.ensures c.field-2.ensures
    c.field-3.ensures c.field-4.ensures
