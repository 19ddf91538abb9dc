use Rattle.std.proofs.Common.{refl, subst, sym, List}
use Rattle.book_price.proofs.LastTurn.{point-is_last}
use Rattle.core_price.specs.Turns.{EndsWith, last_turn}
use Rattle.core_price.specs.declared.priced.Turn.{Turn}
use Rattle.placement_cert.specs.CertValues.{place_cert_value}
use Rattle.place_price.proofs.FoundLaws.{run-of}
use Rattle.place_price.proofs.pricing.priced_places.Goals as goal

pub certificate-requires : goal.certificate-requires
certificate-requires c = c.in_ok-found.ensures

pub returns-clause-run : goal.returns-clause-run
returns-clause-run c =
    let whole = c.in_ok-whole.whole in
    let made = c.in_ok-priced.priced in
    let found = c.in_ok-found.ensures in
    run-of c.args.slots.now whole.choice made.cert.choice found.0 c.in_ok-found.found.priced made.turns found.1.priced_is c.in_ok-priced.ensures.choice
    c.in_ok-priced.ensures.turns

pub returns-clause-last_turn : goal.returns-clause-last_turn
returns-clause-last_turn c =
    let whole = c.in_ok-whole.whole in
    let made = c.in_ok-priced.priced in
    let p = c.in_ok-found.found.priced in
    let cert = (place_cert_value made.cert).cert in
    let ends : EndsWith made.turns (last_turn p.den p.at) = subst (λ (turns : List Turn). EndsWith turns (last_turn p.den p.at))
    (sym c.in_ok-priced.ensures.turns) c.in_ok-found.ensures.1.priced_is.turns.last in
    point-is_last whole.choice p.den p.at made.turns cert cert ends c.in_ok-priced.ensures.point c.in_ok-priced.ensures.choice refl
