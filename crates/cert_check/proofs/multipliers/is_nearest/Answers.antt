use Rattle.std.proofs.Common.{◌^◌, ◌<◌, ◌*ℤ◌, ◌-ℤ◌, ℤ, unsigned_abs, pos, ◌∙◌, ap, sym, subst, refl, rules}
use Rattle.std.proofs.lemmas.Int.{to_z-of_z}
use mir.Val.{SFits}
use mir.Syntax.{w128}
use Rattle.cert_check.proofs.PartLaws.{wins-some, loses-zero}
use Rattle.cert_check.proofs.SumLaws.{difference-fits, difference-is}
use Rattle.cert_check.proofs.HeadLaws.{vickrey-times}
use Rattle.cert_check.proofs.multipliers.is_nearest.Goals as goal

pub returns-then-number-eq0 : goal.returns-then-number-eq0
returns-then-number-eq0 c = (
  λ _ wins. absurd (loses-zero c.args.claim.now.choice.now c.args.j (sym c.number.ensures ∙ c.if-number-eq0.true) wins),
  λ _. refl,
)

pub times-requires : goal.times-requires
times-requires c =
    let den_fits : SFits w128 c.args.claim.now.den = search rules in
    let price_fits : SFits w128 c.vickrey.result = search rules in
    let without_fits : SFits w128 c.args.without = search rules in
    let price = rw (to_z-of_z w128 c.args.without without_fits) at c.vickrey.ensures.price in
    let own = vickrey-times c.args.claim.now c.vickrey.ensures.kept c.args.without c.args.j c.requires.without.0 c.requires.without.1 c.requires.bidder.0
    c.requires.bidder.1 in
    rw (to_z-of_z w128 c.args.claim.now.den den_fits, to_z-of_z w128 c.vickrey.result price_fits)
    (subst (λ (z : ℤ). unsigned_abs (c.args.claim.now.den *ℤ z) < 2 ^ 120) (sym price) own)

pub overflow_sub-above : goal.overflow_sub-above
overflow_sub-above c =
    let den_fits : SFits w128 c.args.claim.now.den = search rules in
    let price_fits : SFits w128 c.vickrey.result = search rules in
    let product = rw (to_z-of_z w128 c.args.claim.now.den den_fits, to_z-of_z w128 c.vickrey.result price_fits) at c.times.ensures in
    let own = vickrey-times c.args.claim.now c.vickrey.ensures.kept c.args.without c.args.j c.requires.without.0 c.requires.without.1 c.requires.bidder.0
    c.requires.bidder.1 in
    let without_fits : SFits w128 c.args.without = search rules in
    let price = rw (to_z-of_z w128 c.args.without without_fits) at c.vickrey.ensures.price in
    let times = product ∙ ap (λ (z : ℤ). c.args.claim.now.den *ℤ z) price in
    difference-fits c.args.payment c.times.result c.requires.payment (subst (λ (z : ℤ). unsigned_abs z < 2 ^ 120) (sym times) own)

pub returns : goal.returns
returns c =
    let den_fits : SFits w128 c.args.claim.now.den = search rules in
    let price_fits : SFits w128 c.vickrey.result = search rules in
    let sum_fits : SFits w128 c.args.sum = search rules in
    let product = rw (to_z-of_z w128 c.args.claim.now.den den_fits, to_z-of_z w128 c.vickrey.result price_fits) at c.times.ensures in
    let own = vickrey-times c.args.claim.now c.vickrey.ensures.kept c.args.without c.args.j c.requires.without.0 c.requires.without.1 c.requires.bidder.0
    c.requires.bidder.1 in
    let without_fits : SFits w128 c.args.without = search rules in
    let price = rw (to_z-of_z w128 c.args.without without_fits) at c.vickrey.ensures.price in
    let times = product ∙ ap (λ (z : ℤ). c.args.claim.now.den *ℤ z) price in
    let product_small = subst (λ (z : ℤ). unsigned_abs z < 2 ^ 120) (sym times) own in
    let above = to_z-of_z w128 _ (difference-fits c.args.payment c.times.result c.requires.payment product_small)
    ∙ difference-is c.args.payment c.times.result c.requires.payment product_small ∙ ap (λ (z : ℤ). c.args.payment -ℤ z) times in
    let sum = to_z-of_z w128 c.args.sum sum_fits in (
      λ t _. sym above ∙ c.is_times.ensures.0 t ∙ ap (λ (z : ℤ). pos c.args.weight *ℤ z) sum,
      λ h. c.is_times.ensures.1
          (above ∙ h (wins-some c.args.claim.now.choice.now c.args.j c.number.result c.number.ensures c.if-number-eq0.false)
          ∙ ap (λ (z : ℤ). pos c.args.weight *ℤ z) (sym sum)),
    )
