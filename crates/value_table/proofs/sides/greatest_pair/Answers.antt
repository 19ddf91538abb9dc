use Rattle.std.proofs.Common.{◌≡◌, ◌∙◌, ◌-◌, ◌≤◌, ◌^◌, ap, arith, rules, get_or, [], pos, ◌+ℤ◌, unsigned_abs}
use Rattle.std.specs.Int.{int_max}
use Rattle.std.proofs.lemmas.Int.{to_z-of_z, fits_signed_from_abs}
use Rattle.choices.specs.Lines.{width_of}
use Rattle.value_table.proofs.PairSums.{sum-size, pair-first, pair-next}
use mir.Val.{SFits, to_z}
use mir.Syntax.{w128}
use Rattle.value_table.proofs.sides.greatest_pair.Goals as goal

pub loop-s-init : goal.loop-s-init
loop-s-init c =
    let states = width_of c.args.left.now in
    let before = get_or c.args.left.now c.args.before [] in
    let after = get_or c.args.right.now c.args.after [] in
    let a = c.entry.result in
    let b = c.entry-2.result in
    let a_is : a ≡ get_or before 0 (pos 0) = c.entry.ensures in
    let b_is : b ≡ get_or after (states - 1) (pos 0) = c.entry-2.ensures ∙ ap (λ n. get_or after (n - 1) (pos 0)) c.width-places.ensures in
    let a_size : unsigned_abs a ≤ 2 ^ 120 = rw a_is (c.requires.before 0) in
    let b_size : unsigned_abs b ≤ 2 ^ 120 = rw b_is (c.requires.after (states - 1)) in
    let a_fits : SFits w128 a = fits_signed_from_abs w128 a (omega (arith, a_size)) in
    let b_fits : SFits w128 b = fits_signed_from_abs w128 b (omega (arith, b_size)) in
    let sum_fits : SFits w128 (a +ℤ b) = fits_signed_from_abs w128 (a +ℤ b) (omega (arith, sum-size a b a_size b_size)) in
    rw (to_z-of_z w128 a a_fits, to_z-of_z w128 b b_fits, to_z-of_z w128 (a +ℤ b) sum_fits, a_is, b_is) (pair-first states before after c.requires.some)

pub loop-s-preserved : goal.loop-s-preserved
loop-s-preserved c =
    let states = width_of c.args.left.now in
    let before = get_or c.args.left.now c.args.before [] in
    let after = get_or c.args.right.now c.args.after [] in
    let s = c.loop-s.s in
    let most = to_z w128 c.loop-s.most-bits in
    let a = c.entry-in-loop-s.result in
    let b = c.entry-in-loop-s-2.result in
    let a_is : a ≡ get_or before s (pos 0) = c.entry-in-loop-s.ensures in
    let b_is : b ≡ get_or after (states - 1 - s) (pos 0) = c.entry-in-loop-s-2.ensures ∙ ap (λ n. get_or after (n - 1 - s) (pos 0)) c.width-places.ensures in
    let a_size : unsigned_abs a ≤ 2 ^ 120 = rw a_is (c.requires.before s) in
    let b_size : unsigned_abs b ≤ 2 ^ 120 = rw b_is (c.requires.after (states - 1 - s)) in
    let a_fits : SFits w128 a = fits_signed_from_abs w128 a (omega (arith, a_size)) in
    let b_fits : SFits w128 b = fits_signed_from_abs w128 b (omega (arith, b_size)) in
    let sum_fits : SFits w128 (a +ℤ b) = fits_signed_from_abs w128 (a +ℤ b) (omega (arith, sum-size a b a_size b_size)) in
    let most_fits : SFits w128 c.max-most.result = search rules in
    let is : c.max-most.result ≡ int_max most (get_or before s (pos 0) +ℤ get_or after (states - 1 - s) (pos 0)) =
    rw (to_z-of_z w128 a a_fits, to_z-of_z w128 b b_fits, to_z-of_z w128 (a +ℤ b) sum_fits, a_is, b_is) at c.max-most.ensures.value in
    rw (to_z-of_z w128 c.max-most.result most_fits, is) (pair-next states before after s most (omega (arith, c.width-places.ensures)) c.loop-s.invariant)
