use Rattle.std.proofs.Common.{◌∙◌, ◌-◌, ◌-ℤ◌, ◌*ℤ◌, ◌^◌, ◌<◌, ℤ, List, get_or, pos, unsigned_abs, sym, ap, subst, arith, rules}
use Rattle.std.proofs.lemmas.Bool.{cond-true}
use Rattle.std.proofs.lemmas.Int.{to_z-of_z}
use mir.Val.{SFits}
use mir.Syntax.{w128}
use Rattle.auction_model.specs.Lowered.{of_bidder}
use Rattle.auction_model.specs.Market.{uses, worth_in}
use Rattle.slot_places.specs.Board.{market_of_slots}
use Rattle.cert_check.proofs.PartLaws.{wins-some}
use Rattle.cert_check.proofs.SumLaws.{in-range}
use Rattle.placement_check.proofs.PartLaws.{cert-kept}
use Rattle.placement_check.proofs.Small.{product-is, less-same, less-fits}
use Rattle.placement_check.proofs.heads.gain.Goals as goal

pub overflow_sub-result-2 : goal.overflow_sub-result-2
overflow_sub-result-2 c =
    let kept = cert-kept c.args.slots.now c.args.cert.now c.requires.shape in
    let den_fits : SFits w128 c.args.cert.now.den = search rules in
    let won_fits : SFits w128 c.won.result = search rules in
    let paid_fits : SFits w128 (get_or c.items-pay.result.now (c.args.j - 1) (pos 0)) = search rules in
    let small : unsigned_abs (c.args.cert.now.den *ℤ c.won.result) < 2 ^ 120 =
    subst (λ (z : ℤ). unsigned_abs (c.args.cert.now.den *ℤ z) < 2 ^ 120) (sym c.won.ensures.won)
    (c.requires.lower.products c.args.j c.requires.bidder.0 c.requires.bidder.1).1 in
    let paid = to_z-of_z w128 (get_or c.items-pay.result.now (c.args.j - 1) (pos 0)) paid_fits ∙ ap (λ (l : List ℤ). get_or l (c.args.j - 1) (pos 0))
    c.items-pay.ensures in
    let range = in-range c.args.cert.now.pay (c.args.j - 1) kept.pay.1 in
    less-fits _ _ _ _ (product-is c.args.cert.now.den c.won.result den_fits won_fits small) paid small (omega (arith, range))

pub returns : goal.returns
returns c =
    let den_fits : SFits w128 c.args.cert.now.den = search rules in
    let won_fits : SFits w128 c.won.result = search rules in
    let paid_fits : SFits w128 (get_or c.items-pay.result.now (c.args.j - 1) (pos 0)) = search rules in
    let small : unsigned_abs (c.args.cert.now.den *ℤ c.won.result) < 2 ^ 120 =
    subst (λ (z : ℤ). unsigned_abs (c.args.cert.now.den *ℤ z) < 2 ^ 120) (sym c.won.ensures.won)
    (c.requires.lower.products c.args.j c.requires.bidder.0 c.requires.bidder.1).1 in
    let paid = to_z-of_z w128 (get_or c.items-pay.result.now (c.args.j - 1) (pos 0)) paid_fits ∙ ap (λ (l : List ℤ). get_or l (c.args.j - 1) (pos 0))
    c.items-pay.ensures in
    let product = product-is c.args.cert.now.den c.won.result den_fits won_fits small ∙ ap (λ (z : ℤ). c.args.cert.now.den *ℤ z) c.won.ensures.won in
    let kept = cert-kept c.args.slots.now c.args.cert.now c.requires.shape in
    let range = in-range c.args.cert.now.pay (c.args.j - 1) kept.pay.1 in
    let fits = less-fits _ _ _ _ (product-is c.args.cert.now.den c.won.result den_fits won_fits small) paid small (omega (arith, range)) in
    let wins = wins-some c.args.cert.now.choice c.args.j c.number.result c.number.ensures c.if-number-eq0.false in
    to_z-of_z w128 _ fits ∙ less-same _ _ _ _ product paid
    ∙ sym (cond-true (uses c.args.cert.now.choice c.args.j) ((c.args.cert.now.den *ℤ worth_in (market_of_slots c.args.slots.now) c.args.cert.now.choice c.args.j) -ℤ
    of_bidder c.args.cert.now.pay c.args.j) (pos 0) wins)
