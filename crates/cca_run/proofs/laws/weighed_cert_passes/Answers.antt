use Rattle.std.specs.Prelude.{false, refl}
use Rattle.cca_cli.specs.Command.{form_with}
use Rattle.cca_run.proofs.Accepted.{accepted-weighed}
use Rattle.cca_run.proofs.laws.weighed_cert_passes.Goals as goal

pub returns-clause-passes : goal.returns-clause-passes
returns-clause-passes c = λ book weights cert form file later o p gives holds checks.
    (accepted-weighed c.one_cert.ensures c.text_of_cert.ensures c.short_text.ensures c.one_verdict.ensures.not_both c.one_price_text.ensures
    c.one_book.ensures c.one_weighing.ensures book weights cert form file later o p holds gives checks).0

pub returns-clause-prints : goal.returns-clause-prints
returns-clause-prints c = λ book weights cert file later o p gives holds checks.
    (accepted-weighed c.one_cert.ensures c.text_of_cert.ensures c.short_text.ensures c.one_verdict.ensures.not_both c.one_price_text.ensures
    c.one_book.ensures c.one_weighing.ensures book weights cert (form_with false false) file later o p holds gives checks).1 refl
