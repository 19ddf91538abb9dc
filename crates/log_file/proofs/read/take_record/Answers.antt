use Rattle.std.proofs.Common.{Bor, List, ℕ, Some}
use Rattle.csv.specs.Records.{fields_of}
use Rattle.log_file.proofs.RecordLaws.{takes}
use Rattle.log_file.proofs.read.take_record.Goals as goal

pub returns-in-Ok-clause-ok : goal.returns-in-Ok-clause-ok
returns-in-Ok-clause-ok c = λ rows left.
    let is = c.in-Ok.ensures in
    takes (λ (s : Bor (List ℕ)). Some s.now) c.args.reader.now c.read_byte_record.new.self c.in-Ok.found (fields_of c.read_byte_record.new.row) rows left
    (is.reads left.no_trim left.ready) (is.ready left.no_trim) is.flexible
