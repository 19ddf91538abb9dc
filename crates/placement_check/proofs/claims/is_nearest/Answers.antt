use Rattle.std.proofs.Common.{◌∙◌, ◌-◌, ◌*◌, ◌^◌, ◌≤◌, ℤ, List, length, get_or, pos, unsigned_abs, sym, ap, subst, arith, rules}
use Rattle.std.proofs.lemmas.Int.{to_z-of_z}
use mir.Val.{SFits}
use mir.Syntax.{w128}
use Rattle.cert_grammar.specs.Certificate.{RowValue}
use Rattle.cert_grammar.specs.CertText.{AllInRange}
use Rattle.cert_check.proofs.PartLaws.{wins-some}
use Rattle.cert_check.proofs.SumLaws.{in-range}
use Rattle.cert_check.proofs.TimesLaws.{times-same}
use Rattle.placement_check.proofs.PartLaws.{cert-kept}
use Rattle.placement_check.proofs.PlaceLaws.{above-price}
use Rattle.placement_check.proofs.RowLaws.{count-rows, holding-same}
use Rattle.placement_check.proofs.Small.{less-same, less-fits}
use Rattle.placement_check.proofs.claims.is_nearest.Goals as goal

pub overflow_sub-pay : goal.overflow_sub-pay
overflow_sub-pay c =
    let kept = cert-kept c.args.slots.now c.args.cert.now c.requires.shape in
    let paid_fits : SFits w128 (get_or c.items-pay.result.now (c.args.j - 1) (pos 0)) = search rules in
    let second = get_or c.sums_over-sums.result.seconds (c.args.j - 1) (pos 0) in
    let sum_fits : SFits w128 second = search rules in
    let paid = to_z-of_z w128 (get_or c.items-pay.result.now (c.args.j - 1) (pos 0)) paid_fits in
    let sum = to_z-of_z w128 second sum_fits in
    let small = in-range c.items-pay.result.now (c.args.j - 1) (subst (λ (l : List ℤ). AllInRange l) (sym c.items-pay.ensures) kept.pay.1) in
    let few : length c.items.result.now ≤ 10 = omega (arith, count-rows c.args.cert.now.rows c.items.result.now c.items.ensures, kept.few) in
    let size : unsigned_abs second ≤ 10 * 2 ^ 120 = omega (arith, c.sums_over-sums.ensures.seconds.small (c.args.j - 1), few) in
    less-fits _ _ _ _ paid sum small size

pub returns : goal.returns
returns c =
    let paid_fits : SFits w128 (get_or c.items-pay.result.now (c.args.j - 1) (pos 0)) = search rules in
    let second = get_or c.sums_over-sums.result.seconds (c.args.j - 1) (pos 0) in
    let sum_fits : SFits w128 second = search rules in
    let den_fits : SFits w128 c.args.cert.now.den = search rules in
    let price_fits : SFits w128 c.vickrey.result = search rules in
    let paid = to_z-of_z w128 (get_or c.items-pay.result.now (c.args.j - 1) (pos 0)) paid_fits ∙ ap (λ (l : List ℤ). get_or l (c.args.j - 1) (pos 0))
    c.items-pay.ensures in
    let sum = to_z-of_z w128 second sum_fits ∙ c.sums_over-sums.ensures.seconds.each c.args.j c.requires.bidder.0
    (omega (arith, c.requires.bidder.1, c.kept.ensures.few)) ∙ holding-same c.args.cert.now.rows c.items.result.now c.args.j
    (λ (row : RowValue). row.second) c.items.ensures in
    let price = to_z-of_z w128 c.vickrey.result price_fits ∙ c.vickrey.ensures in
    let kept = cert-kept c.args.slots.now c.args.cert.now c.requires.shape in
    let small = in-range c.args.cert.now.pay (c.args.j - 1) kept.pay.1 in
    let sum_own = to_z-of_z w128 second sum_fits in
    let few : length c.items.result.now ≤ 10 = omega (arith, count-rows c.args.cert.now.rows c.items.result.now c.items.ensures, kept.few) in
    let size : unsigned_abs second ≤ 10 * 2 ^ 120 = omega (arith, c.sums_over-sums.ensures.seconds.small (c.args.j - 1), few) in
    let fits = less-fits _ _ _ _ paid sum_own small size in
    let test = rw (to_z-of_z w128 c.args.cert.now.den den_fits) at c.is_product.ensures in
    let own = above-price c.is_product.result _ _ _ (times-same c.is_product.result c.args.cert.now.den _ _ _ _
    (to_z-of_z w128 _ fits ∙ less-same _ _ _ _ paid sum) price test) in (
      λ t _. own.0 t,
      λ h. own.1 (h (wins-some c.args.cert.now.choice c.args.j c.number.result c.number.ensures c.if-number-eq0.false)),
    )
