use Rattle.log_file.proofs.WrittenLog.{written-log}
use Rattle.log_file.proofs.laws.written_log.Goals as goal

pub returns : goal.returns
returns c = written-log
