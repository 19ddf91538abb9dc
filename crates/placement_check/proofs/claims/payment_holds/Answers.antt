use Rattle.std.proofs.Common.{◌∙◌, ◌-◌, ◌*ℤ◌, ◌^◌, ◌<◌, ◌≤◌, ℤ, List, get_or, length, pos, unsigned_abs, sym, ap, subst, arith, rules}
use Rattle.std.proofs.lemmas.Bool.{iff_false}
use Rattle.std.proofs.lemmas.Int.{to_z-of_z}
use mir.Val.{SFits}
use mir.Syntax.{w128}
use Rattle.slot_places.specs.Board.{market_of_slots}
use Rattle.placement_cert.specs.CertValues.{place_cert_value}
use Rattle.cert_check.proofs.PartLaws.{wins-some}
use Rattle.placement_check.proofs.PlaceLaws.{pays-past, pays-winner}
use Rattle.placement_check.proofs.SetTests.{always}
use Rattle.placement_check.proofs.Small.{product-is}
use Rattle.placement_check.proofs.claims.payment_holds.Goals as goal

pub returns-then-not-is_one_of : goal.returns-then-not-is_one_of
returns-then-not-is_one_of c =
    always (pays-past (market_of_slots c.args.slots.now) (place_cert_value c.args.cert.now).cert c.args.place
    (λ h. iff_false c.is_one_of.ensures c.if-not-is_one_of.true (h.0, omega (arith, h.1, c.bidders.ensures.bidders))))

pub returns : goal.returns
returns c =
    let inside = c.is_one_of.ensures.0 c.if-not-is_one_of.false in
    let low : c.args.place ≤ length c.args.slots.now.bidders = omega (arith, inside.1, c.bidders.ensures.bidders) in
    let den_fits : SFits w128 c.args.cert.now.den = search rules in
    let won_fits : SFits w128 c.won.result = search rules in
    let paid_fits : SFits w128 (get_or c.items-pay.result.now (c.args.place - 1) (pos 0)) = search rules in
    let small : unsigned_abs (c.args.cert.now.den *ℤ c.won.result) < 2 ^ 120 =
    subst (λ (z : ℤ). unsigned_abs (c.args.cert.now.den *ℤ z) < 2 ^ 120) (sym c.won.ensures.won) (c.requires.small c.args.place inside.0 low).1 in
    let paid = to_z-of_z w128 (get_or c.items-pay.result.now (c.args.place - 1) (pos 0)) paid_fits ∙ ap
    (λ (l : List ℤ). get_or l (c.args.place - 1) (pos 0)) c.items-pay.ensures in
    let most = product-is c.args.cert.now.den c.won.result den_fits won_fits small ∙ ap (λ (z : ℤ). c.args.cert.now.den *ℤ z) c.won.ensures.won in
    pays-winner (market_of_slots c.args.slots.now) (place_cert_value c.args.cert.now).cert c.args.place _ _ c.is_between.result inside.0 low
    (wins-some c.args.cert.now.choice c.args.place c.number.result c.number.ensures c.if-number-eq0.false) paid most c.is_between.ensures
