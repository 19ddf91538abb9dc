use Rattle.std.proofs.Common.{ℕ, below_more, arith, rules}
use Rattle.std.proofs.lemmas.Int.{to_z-of_z}
use Rattle.auction_model.proofs.PlaceLaws.{place-less}
use Rattle.review.specs.Reviewed.{IsBelowAt}
use mir.Val.{SFits}
use mir.Syntax.{w128}
use Rattle.review.proofs.keeping.are_below.Goals as goal

pub loop-place-init : goal.loop-place-init
loop-place-init c = λ s low fits.
    absurd (omega (
      arith,
      low,
      c.place-first.ensures.place,
      place-less c.args.supply.now c.args.package.now s
          (omega (arith, low, c.place-first.ensures.below)) fits,
    ))

pub loop-place-preserved : goal.loop-place-preserved
loop-place-preserved c =
    let limit_fits : SFits w128 c.args.limit = search rules in
    rw (to_z-of_z w128 c.args.limit limit_fits)
    (below_more (λ (s : ℕ). IsBelowAt c.args.supply.now c.args.package.now c.args.before.now c.args.after.now c.args.limit s) c.loop-place.place
    (rw (to_z-of_z w128 c.args.limit limit_fits) at c.loop-place.invariant)
    (rw (to_z-of_z w128 c.args.limit limit_fits) at (c.is_below_at.ensures c.if-not-is_below_at.false)))
