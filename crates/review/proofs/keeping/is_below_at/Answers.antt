use Rattle.std.proofs.Common.{◌≡◌, ◌-◌, ◌<ℤ◌, ◌+ℤ◌, ℕ, get_or, pos, true, ap, subst, arith, rules}
use Rattle.std.proofs.lemmas.Int.{fits_signed_from_abs, to_z-of_z, ints}
use Rattle.auction_model.specs.Package.{less}
use Rattle.auction_model.specs.Place.{left_at, place_of, states_of}
use Rattle.auction_model.proofs.PlaceLaws.{place-less}
use Rattle.std.specs.Int.Signed.{lt_z}
use mir.Val.{SFits}
use mir.Syntax.{w128}
use Rattle.review.proofs.keeping.is_below_at.Goals as goal

pub returns-then-before-last : goal.returns-then-before-last
returns-then-before-last c = λ yes fits.
    let before = c.args.before.now in
    let after = c.args.after.now in
    let supply = c.args.supply.now in
    let x = c.states-last.result - 1 - c.args.place in
    let y = c.args.place - c.args.first in
    let a = get_or before x (pos 0) in
    let b = get_or after y (pos 0) in
    let a_fits : SFits w128 a = fits_signed_from_abs w128 a (omega (arith, c.requires.before_sizes x)) in
    let b_fits : SFits w128 b = fits_signed_from_abs w128 b (omega (arith, c.requires.after_sizes y)) in
    let sum_fits : SFits w128 (a +ℤ b) = fits_signed_from_abs w128 (a +ℤ b) (omega (arith, ints, c.requires.before_sizes x, c.requires.after_sizes y)) in
    let limit_fits : SFits w128 c.args.limit = search rules in
    let t : lt_z (a +ℤ b) c.args.limit ≡ true = rw (
      to_z-of_z w128 a a_fits,
      to_z-of_z w128 b b_fits,
      to_z-of_z w128 (a +ℤ b) sum_fits,
      to_z-of_z w128 c.args.limit limit_fits,
    ) at c.if-before-last.true in
    let low : (a +ℤ b) <ℤ c.args.limit = grind (arith, ints) in
    let place_is : x ≡ states_of supply - 1 - c.args.place = ap (λ (n : ℕ). n - 1 - c.args.place) c.states-last.ensures.states in
    let rest_is : y ≡ place_of supply (less (left_at supply c.args.place) c.args.package.now) = omega
    (arith, c.requires.first.0, place-less supply c.args.package.now c.args.place c.requires.place fits) in
    subst (λ (n : ℕ). (get_or before n (pos 0) +ℤ get_or after (place_of supply (less (left_at supply c.args.place) c.args.package.now)) (pos 0)) <ℤ
    c.args.limit) place_is
    (subst (λ (n : ℕ). (a +ℤ get_or after n (pos 0)) <ℤ c.args.limit) rest_is low)
