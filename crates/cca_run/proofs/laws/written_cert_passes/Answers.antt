use Rattle.std.specs.Prelude.{false, refl}
use Rattle.cca_cli.specs.Command.{form_with}
use Rattle.cca_run.proofs.Accepted.{accepted}
use Rattle.cca_run.proofs.laws.written_cert_passes.Goals as goal

pub returns-clause-passes : goal.returns-clause-passes
returns-clause-passes c = λ book cert form file later o p gives holds checks.
    (accepted c.one_cert.ensures c.text_of_cert.ensures c.short_text.ensures c.one_verdict.ensures.not_both c.one_price_text.ensures c.one_book.ensures book
    cert form file later o p gives holds checks).0

pub returns-clause-prints : goal.returns-clause-prints
returns-clause-prints c = λ book cert file later o p gives holds checks.
    (accepted c.one_cert.ensures c.text_of_cert.ensures c.short_text.ensures c.one_verdict.ensures.not_both c.one_price_text.ensures c.one_book.ensures book
    cert (form_with false false) file later o p gives holds checks).1 refl
