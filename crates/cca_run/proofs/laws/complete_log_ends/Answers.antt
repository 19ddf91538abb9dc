use Rattle.cca_run.proofs.CompleteLogEnds.{complete-ends}
use Rattle.cca_run.proofs.OneLog.{one_log-answer}
use Rattle.cca_run.proofs.laws.complete_log_ends.Goals as goal

pub returns : goal.returns
returns c =
    complete-ends
    (one_log-answer c.one_reading.ensures.log c.one_reading.ensures.fault c.one_reading.ensures.no_fault c.one_reading.ensures.not_many
    c.one_reading.ensures.few_before)
