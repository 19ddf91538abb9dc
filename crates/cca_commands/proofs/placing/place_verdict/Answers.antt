use Rattle.std.proofs.Common.{Err, Ok, Result, ap, inr, ◌∙◌, ◌≡◌, ◌⊎◌, refl, sym, subst}
use Rattle.placement_cert.specs.CertValues.{place_cert_value}
use Rattle.cca_cli.specs.Outcome.{stopped_after}
use Rattle.cca_cli.specs.Reading.{IsStop}
use Rattle.cca_cli.specs.declared.status.CertKind.TheVariants as certs
use Rattle.cca_cli.specs.declared.status.Status.{Status}
use Rattle.cca_cli.specs.declared.status.Status.TheVariants.{No, Memory}
use Rattle.cca_commands.specs.declared.work.Work.{Work}
use Rattle.cca_commands.specs.Gives.{PlaceVerdictGives}
use Rattle.cca_commands.specs.Works.{bare, text_before}
use Rattle.cca_commands.specs.declared.work.Stop.{Stop}
use Rattle.cca_commands.proofs.placing.place_verdict.Goals as goal

abbrev end_of : Result Work Stop → Status
end_of (Ok work) = Memory
end_of (Err stop) = stop.status

pub returns-in-No-clause-memory : goal.returns-in-No-clause-memory
returns-in-No-clause-memory c = λ memory.
    let is : c.from.result ≡ bare (No certs.Placement c.in-No.test c.in-No.place) = c.from.ensures in
    let same : No certs.Placement c.in-No.test c.in-No.place ≡ Memory = sym (ap (λ (s : Stop). s.status) is) ∙ ap end_of memory in
    absurd (subst IsStop same tt)

pub returns-in-No-clause-work : goal.returns-in-No-clause-work
returns-in-No-clause-work c =
    let is : c.from.result ≡ bare (No certs.Placement c.in-No.test c.in-No.place) = c.from.ensures in
    let cert = place_cert_value c.args.cert.now in
    subst (λ (s : Stop). (s ≡ bare Memory) ⊎ (IsStop s.status × PlaceVerdictGives c.args.slots.now cert (stopped_after (text_before s) s.status))) (sym is)
    (inr (tt, inr (c.in-No.test, c.in-No.place, c.in-No.ensures.verdict, refl)))
