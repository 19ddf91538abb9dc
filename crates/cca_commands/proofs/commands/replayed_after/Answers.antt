use Rattle.std.proofs.Common.{inl, inr, ap, ◌∙◌, Err}
use Rattle.std.proofs.lemmas.Result.{err_from_is_err_and}
use Rattle.log_file.specs.LogReading.{log_records}
use Rattle.cca_commands.specs.declared.work.Stop.{Stop}
use Rattle.cca_commands.proofs.commands.replayed_after.Goals as goal

pub returns-in_err-log-clause-out : goal.returns-in_err-log-clause-out
returns-in_err-log-clause-out g c =
    let is = err_from_is_err_and c.from_residual.result c.from_residual.ensures.1 in
    inl (c.in_err-log.field-0.0, is.1 ∙ ap (λ (s : Stop). Err s) is.2, c.in_err-log.ensures.stop)

pub replayed-requires : goal.replayed-requires
replayed-requires g c =
    let stated = c.in_ok-log.ensures.value in
    c.packages_of_log.ensures c.args.award (log_records stated.bytes) c.in_ok-log.log stated.says

pub returns-clause-out : goal.returns-clause-out
returns-clause-out g c = inr (c.in_ok-log.log, c.in_ok-log.ensures.value, c.replayed.ensures)
