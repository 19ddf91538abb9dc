use Rattle.std.proofs.Common.{◌≡◌, ℕ, ℤ, ◌*ℤ◌, ◌+ℤ◌, length, arith, ap, sym, ◌∙◌}
use Rattle.std.proofs.lemmas.Int.{ints}
use Rattle.far_num.specs.Members.{holds}
use Rattle.wide_num.specs.Sums.{dot, nth}
use Rattle.nearest_point.specs.Numbers.{at_t, large}
use Rattle.nearest_point.proofs.Parts.{dot-at_t}
use Rattle.nearest_point.proofs.Sizes.{back, product_back, less_is, more_is}
use Rattle.nearest_point.proofs.members.is_below.Goals as goal

sum_at_t : (c : goal.After-is_less) → dot (length c.args.far.now) (holds c.args.row.members) (at_t large (nth c.args.far.now) (nth c.args.near.now))
    ≡ c.sum_over-far_sum.result *ℤ large +ℤ c.sum_over-near_sum.result
sum_at_t c =
    dot-at_t (length c.args.far.now) (holds c.args.row.members) large (nth c.args.far.now) (nth c.args.near.now)
    ∙ ap (λ (z : ℤ). z *ℤ large +ℤ dot (length c.args.far.now) (holds c.args.row.members) (nth c.args.near.now)) (sym c.sum_over-far_sum.ensures.value)
    ∙ ap (λ (z : ℤ). c.sum_over-far_sum.result *ℤ large +ℤ z)
    (sym (c.sum_over-near_sum.ensures.value ∙ ap (λ (k : ℕ). dot k (holds c.args.row.members) (nth c.args.near.now)) c.requires.few.1))

pub returns-clause-below : goal.returns-clause-below
returns-clause-below c = λ yes.
    let f = c.sum_over-far_sum.ensures.small in
    let n = c.sum_over-near_sum.ensures.small in
    less_is _ _ _ c.sum_over-far_sum.result c.sum_over-near_sum.result _ _
    (back c.sum_over-far_sum.result (omega (arith, ints))) (back c.sum_over-near_sum.result (omega (arith, ints)))
    (product_back c.args.den c.args.row.bound c.requires.den.0 c.requires.den.1 c.requires.bound.0 c.requires.bound.1) (sum_at_t c)
    (c.is_less.ensures.below yes)

pub returns-clause-above : goal.returns-clause-above
returns-clause-above c = λ no.
    let f = c.sum_over-far_sum.ensures.small in
    let n = c.sum_over-near_sum.ensures.small in
    more_is _ _ _ c.sum_over-far_sum.result c.sum_over-near_sum.result _ _
    (back c.sum_over-far_sum.result (omega (arith, ints))) (back c.sum_over-near_sum.result (omega (arith, ints)))
    (product_back c.args.den c.args.row.bound c.requires.den.0 c.requires.den.1 c.requires.bound.0 c.requires.bound.1) (sum_at_t c) (c.is_less.ensures.above no)
