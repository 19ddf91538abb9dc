use Rattle.std.specs.Prelude.{false, refl}
use Rattle.cca_run.proofs.PlacedAccepted.{accepted-placing}
use Rattle.cca_run.proofs.laws.placed_cert_passes.Goals as goal

pub returns-clause-passes : goal.returns-clause-passes
returns-clause-passes c = λ slots cert rounds file later o p gives holds checks.
    (accepted-placing c.one_slots.ensures.one c.one_place_cert.ensures c.text_of_place_cert.ensures c.short_place_text.ensures.within
    c.one_place_verdict.ensures.not_both c.one_place_text.ensures
    slots cert rounds file later o p gives holds checks).0

pub returns-clause-prints : goal.returns-clause-prints
returns-clause-prints c = λ slots cert file later o p gives holds checks.
    (accepted-placing c.one_slots.ensures.one c.one_place_cert.ensures c.text_of_place_cert.ensures c.short_place_text.ensures.within
    c.one_place_verdict.ensures.not_both c.one_place_text.ensures
    slots cert false file later o p gives holds checks).1 refl
