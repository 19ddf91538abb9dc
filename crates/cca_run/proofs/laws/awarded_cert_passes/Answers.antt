use Rattle.std.specs.Prelude.{false, refl}
use Rattle.cca_cli.specs.Command.{form_with}
use Rattle.cca_run.proofs.Accepted.{accepted-log}
use Rattle.cca_run.proofs.LogBooks.{rules-log}
use Rattle.cca_run.proofs.OneLog.{one_log-answer}
use Rattle.cca_run.proofs.laws.awarded_cert_passes.Goals as goal

pub returns-clause-passes : goal.returns-clause-passes
returns-clause-passes c = λ terms log cert form file later o p gives holds checks.
    let one_log = one_log-answer c.one_reading.ensures.log c.one_reading.ensures.fault c.one_reading.ensures.no_fault c.one_reading.ensures.not_many
    c.one_reading.ensures.few_before in
    (accepted-log c.one_cert.ensures c.text_of_cert.ensures c.short_text.ensures c.one_verdict.ensures.not_both c.one_price_text.ensures one_log
    (rules-log c.book_of_award.ensures c.packages_of_log.ensures)
    terms log cert form file later o p holds gives checks).0

pub returns-clause-prints : goal.returns-clause-prints
returns-clause-prints c = λ terms log cert file later o p gives holds checks.
    let one_log = one_log-answer c.one_reading.ensures.log c.one_reading.ensures.fault c.one_reading.ensures.no_fault c.one_reading.ensures.not_many
    c.one_reading.ensures.few_before in
    (accepted-log c.one_cert.ensures c.text_of_cert.ensures c.short_text.ensures c.one_verdict.ensures.not_both c.one_price_text.ensures one_log
    (rules-log c.book_of_award.ensures c.packages_of_log.ensures)
    terms log cert (form_with false false) file later o p holds gives checks).1 refl
