use Rattle.std.proofs.Common.{◌^◌, ◌<◌, ◌-◌, ◌*ℤ◌, [], ℤ, unsigned_abs, ap, subst, sym, ◌∙◌, get_or, pos, rules}
use Rattle.std.proofs.lemmas.Int.{to_z-of_z}
use mir.Val.{SFits}
use mir.Syntax.{w128}
use Rattle.cert_check.specs.Fields.{cert_with}
use Rattle.cert_check.proofs.PartLaws.{wins-some}
use Rattle.cert_check.proofs.HeadLaws.{claim-known, won-times}
use Rattle.cert_check.proofs.PlaceLaws.{winner-C5}
use Rattle.cert_check.proofs.payments.payment_holds.Goals as goal

pub won-requires-clause-known : goal.won-requires-clause-known
won-requires-clause-known c = claim-known c.args.claim.now

pub times-requires : goal.times-requires
times-requires c =
    let a = c.args.claim.now in
    let den_fits : SFits w128 c.args.claim.now.den = search rules in
    let won_fits : SFits w128 c.won.result = search rules in
    let small = won-times a c.won.ensures.kept c.args.j c.requires.bidder.0 c.requires.bidder.1 in
    rw (to_z-of_z w128 c.args.claim.now.den den_fits, to_z-of_z w128 c.won.result won_fits)
    (subst (λ (z : ℤ). unsigned_abs (c.args.claim.now.den *ℤ z) < 2 ^ 120) (sym c.won.ensures.won) small)

pub returns : goal.returns
returns c =
    let a = c.args.claim.now in
    let den_fits : SFits w128 c.args.claim.now.den = search rules in
    let won_fits : SFits w128 c.won.result = search rules in
    let most_fits : SFits w128 c.times.result = search rules in
    let paid_fits : SFits w128 (get_or c.args.pay.now (c.args.j - 1) (pos 0)) = search rules in
    let paid_is = to_z-of_z w128 (get_or c.args.pay.now (c.args.j - 1) (pos 0)) paid_fits in
    let product = rw (to_z-of_z w128 c.args.claim.now.den den_fits, to_z-of_z w128 c.won.result won_fits) at c.times.ensures in
    let most_is = to_z-of_z w128 c.times.result most_fits ∙ product ∙ ap (λ (z : ℤ). c.args.claim.now.den *ℤ z) c.won.ensures.won in
    winner-C5 a.book.now (cert_with a [] c.args.pay.now []) c.args.j _ _ c.is_between.result c.requires.bidder.0 c.requires.bidder.1
    (wins-some a.choice.now c.args.j c.number.result c.number.ensures c.if-number-eq0.false) paid_is most_is c.is_between.ensures
