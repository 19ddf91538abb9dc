use Rattle.std.proofs.Common.{◌≡◌}
use Rattle.std.proofs.lemmas.Result.{err_from_is_err_and}
use Rattle.log_file.specs.LogReading.{log_records}
use Rattle.log_file.proofs.read.read_text.Goals as goal

pub returns-in_err-read_records-clause-err : goal.returns-in_err-read_records-clause-err
returns-in_err-read_records-clause-err c =
    let p = err_from_is_err_and c.from_residual.result c.from_residual.ensures.1 in
    let same : p.0 ≡ c.in_err-read_records.field-0.0 = cc (p.2) in
    rw (p.1, same) (c.in_err-read_records.ensures.err (log_records c.args.bytes.now) c.records_of-reader.ensures)

pub returns-clause-ok : goal.returns-clause-ok
returns-clause-ok c = c.in_ok-read_records.ensures.ok (log_records c.args.bytes.now) c.records_of-reader.ensures
