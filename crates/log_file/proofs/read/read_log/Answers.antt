use Rattle.std.proofs.lemmas.Result.{IfErr-weaker, IfOk-weaker}
use Rattle.log_file.proofs.WideLogs.{log_alike, stop_alike}
use Rattle.log_file.proofs.read.read_log.Goals as goal

pub returns-clause-ok : goal.returns-clause-ok
returns-clause-ok c = IfOk-weaker c.read_text.result _ _ (log_alike c.args.award.now _ _ c.up_to_wide_record.ensures) c.read_text.ensures.ok

pub returns-clause-err : goal.returns-clause-err
returns-clause-err c = IfErr-weaker c.read_text.result _ _ (stop_alike c.args.award.now _ _ c.up_to_wide_record.ensures) c.read_text.ensures.err
