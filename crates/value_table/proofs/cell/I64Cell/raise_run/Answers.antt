use Rattle.std.proofs.Common.{◌≡◌, ◌∙◌, ◌<◌, ◌≤◌, ◌^◌, sym, ap, arith, rules, get_or, length, ℤ, pos, ◌+ℤ◌, unsigned_abs}
use Rattle.std.specs.Int.{int_max}
use Rattle.std.proofs.lemmas.Int.{to_z-of_z, fits_signed_from_abs}
use Rattle.value_table.proofs.NumberParts.{read-plain, plain-run}
use Rattle.value_table.proofs.Places.{done-more, rest-more}
use mir.Val.{SFits, to_z, of_z}
use mir.Syntax.{w64}
use Rattle.value_table.proofs.cell.I64Cell.raise_run.Goals as goal

pub loop-i-preserved : goal.loop-i-preserved
loop-i-preserved c =
    let line = c.loop-i.line in
    let at = c.loop-i.i in
    let worth = to_z w64 (of_z w64 c.args.worth) in
    let made = to_z w64 (of_z w64 c.max.result) in
    let b = get_or c.args.below.now at (pos 0) in
    let inside : at < length line = omega arith in
    let size : unsigned_abs b ≤ 2 ^ 61 = rw (read-plain c.args.below.now at) at (c.requires.sizes at) in
    let old_fits : SFits w64 (get_or line at (pos 0)) = search rules in
    let worth_fits : SFits w64 c.args.worth = search rules in
    let below_fits : SFits w64 b = fits_signed_from_abs w64 b (omega (arith, size)) in
    let sum_fits : SFits w64 (c.args.worth +ℤ b) = search rules in
    let result_fits : SFits w64 c.max.result = search rules in
    let f = λ (s : _) (old : ℤ). int_max old (worth +ℤ get_or c.args.below.now s (pos 0)) in
    let max_is : c.max.result ≡ int_max (get_or line at (pos 0)) (c.args.worth +ℤ b) = simp to_z-of_z at c.max.ensures.value in
    let is : made ≡ f at (get_or line at (pos 0)) = to_z-of_z w64 c.max.result result_fits ∙ max_is ∙ ap (λ w. int_max (get_or line at (pos 0)) (w +ℤ b))
    (sym (to_z-of_z w64 c.args.worth worth_fits)) in
    record {
      done = done-more f line c.args.line.now at made inside c.loop-i.invariant.rest c.loop-i.invariant.done is;
      rest = rest-more f line c.args.line.now at made inside c.loop-i.invariant.rest;
    }

pub overflow_add-worth : goal.overflow_add-worth
overflow_add-worth c =
    let at = c.loop-i.i in
    let b = get_or c.args.below.now at (pos 0) in
    let size : unsigned_abs b ≤ 2 ^ 61 = rw (read-plain c.args.below.now at) at (c.requires.sizes at) in
    let worth_fits : SFits w64 c.args.worth = search rules in
    let below_fits : SFits w64 b = fits_signed_from_abs w64 b (omega (arith, size)) in
    let sum_fits : SFits w64 (c.args.worth +ℤ b) = search rules in
    rw (to_z-of_z w64 c.args.worth worth_fits, to_z-of_z w64 b below_fits) sum_fits

pub returns : goal.returns
returns c =
    let worth_fits : SFits w64 c.args.worth = search rules in
    λ s h. plain-run c.loop-i.line c.args.below.now c.args.line.now c.args.worth s
    (rw (to_z-of_z w64 c.args.worth worth_fits) at (c.loop-i.invariant.done s (omega arith)))
