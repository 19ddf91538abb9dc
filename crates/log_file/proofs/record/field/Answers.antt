use Rattle.csv.specs.Records.{fields_of}
use Rattle.log_file.proofs.RowFields.{found_field}
use Rattle.log_file.proofs.record.field.Goals as goal

pub unwrap-requires : goal.unwrap-requires
unwrap-requires c = found_field c.get.result (fields_of c.args.row.now) c.args.i c.get.ensures.value c.requires
