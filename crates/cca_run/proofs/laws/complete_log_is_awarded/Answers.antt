use Rattle.cca_run.proofs.CompleteLogs.{done-where, only-where}
use Rattle.cca_run.proofs.LogBooks.{lawful-log}
use Rattle.cca_run.proofs.OneLog.{one_log-answer}
use Rattle.cca_run.proofs.laws.complete_log_is_awarded.Goals as goal

pub returns-clause-done : goal.returns-clause-done
returns-clause-done c =
    done-where (one_log-answer c.one_reading.ensures.log c.one_reading.ensures.fault c.one_reading.ensures.no_fault c.one_reading.ensures.not_many
    c.one_reading.ensures.few_before) (lawful-log c.book_of_award.ensures c.packages_of_log.ensures c.book_market.ensures) c.winning_choice.ensures.one

pub returns-clause-only : goal.returns-clause-only
returns-clause-only c =
    only-where (one_log-answer c.one_reading.ensures.log c.one_reading.ensures.fault c.one_reading.ensures.no_fault c.one_reading.ensures.not_many
    c.one_reading.ensures.few_before) (lawful-log c.book_of_award.ensures c.packages_of_log.ensures c.book_market.ensures) c.winning_choice.ensures.one
