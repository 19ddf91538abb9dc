use Rattle.std.proofs.Common.{Bool, ap, arith, false, get_or, length, not, pos, rules, set, sym, true, unsigned_abs, ℕ, ℤ, ◌+ℤ◌, ◌<ℤ◌, ◌<◌, ◌^◌, ◌∙◌}
use Rattle.std.proofs.Common.{◌≡◌, ◌≤ℤ◌, ◌≤◌}
use Rattle.std.specs.Int.{int_max}
use Rattle.std.proofs.lemmas.Int.{to_z-of_z, ints, fits_signed_from_abs, int_max_is}
use Rattle.value_table.proofs.NumberParts.{read-plain, plain-run}
use Rattle.value_table.proofs.Places.{done-more, rest-more, done-kept, rest-kept}
use Rattle.std.proofs.lemmas.Bool.{false≢true, not_from_false}
use Rattle.std.specs.Int.Signed.{lt_z, lt_z_no}
use lib.Dec.{T}
use mir.Val.{SFits, to_z, of_z}
use mir.Syntax.{w128}
use Rattle.value_table.proofs.cell.I128Cell.raise_run.Goals as goal
use Rattle.value_table.proofs.cell.I128Cell.raise_run.Goals.{then-line-i, else-line-i}

holds : (b : Bool) → b ≡ true → T b
holds true h = tt
holds false h = absurd (false≢true h)

max-right : (a b : ℤ) → lt_z a b ≡ true → b ≡ int_max a b
max-right a b h = let low : a <ℤ b = record { lt = holds (lt_z a b) h } in omega (arith, ints, int_max_is a b)

max-left : (a b : ℤ) → lt_z a b ≡ false → a ≡ int_max a b
max-left a b h = let high : b ≤ℤ a = lt_z_no (holds (not (lt_z a b)) (not_from_false (lt_z a b) h)) in omega (arith, ints, int_max_is a b)

pub loop-i-preserved : goal.loop-i-preserved
loop-i-preserved c =
    let line = c.loop-i.line in
    let at = c.loop-i.i in
    let worth = to_z w128 (of_z w128 c.args.worth) in
    let b = get_or c.args.below.now at (pos 0) in
    let old = get_or line at (pos 0) in
    let inside : at < length line = omega arith in
    let size : unsigned_abs b ≤ 2 ^ 120 = rw (read-plain c.args.below.now at) at (c.requires.sizes at) in
    let old_fits : SFits w128 old = search rules in
    let worth_fits : SFits w128 c.args.worth = search rules in
    let below_fits : SFits w128 b = fits_signed_from_abs w128 b (omega (arith, size)) in
    let sum_fits : SFits w128 (c.args.worth +ℤ b) = search rules in
    let same : worth ≡ c.args.worth = to_z-of_z w128 c.args.worth worth_fits in
    let f = λ (s : ℕ) (z : ℤ). int_max z (worth +ℤ get_or c.args.below.now s (pos 0)) in
    elim c.if-line-i.branch [
      | then-line-i w ↦
          let is : c.if-line-i.line ≡ set line at (c.args.worth +ℤ b) = simp to_z-of_z at w.line-is in
          let low : lt_z old (c.args.worth +ℤ b) ≡ true = simp to_z-of_z at w.if-line-i.true in
          let top : c.args.worth +ℤ b ≡ f at old = max-right old (c.args.worth +ℤ b) low ∙ ap (λ z. int_max old (z +ℤ b)) (sym same) in
          rw is (record {
            done = done-more f line c.args.line.now at (c.args.worth +ℤ b) inside c.loop-i.invariant.rest c.loop-i.invariant.done top;
            rest = rest-more f line c.args.line.now at (c.args.worth +ℤ b) inside c.loop-i.invariant.rest;
          })
      | else-line-i w ↦
          let high : lt_z old (c.args.worth +ℤ b) ≡ false = simp to_z-of_z at w.if-line-i.false in
          let top : old ≡ f at old = max-left old (c.args.worth +ℤ b) high ∙ ap (λ z. int_max old (z +ℤ b)) (sym same) in
          rw w.line-is (record {
            done = done-kept f line c.args.line.now at old inside c.loop-i.invariant.rest c.loop-i.invariant.done top;
            rest = rest-kept f line c.args.line.now at old inside c.loop-i.invariant.rest;
          })
    ]

pub overflow_add-sum : goal.overflow_add-sum
overflow_add-sum c =
    let at = c.loop-i.i in
    let b = get_or c.args.below.now at (pos 0) in
    let size : unsigned_abs b ≤ 2 ^ 120 = rw (read-plain c.args.below.now at) at (c.requires.sizes at) in
    let worth_fits : SFits w128 c.args.worth = search rules in
    let below_fits : SFits w128 b = fits_signed_from_abs w128 b (omega (arith, size)) in
    let sum_fits : SFits w128 (c.args.worth +ℤ b) = search rules in
    rw (to_z-of_z w128 c.args.worth worth_fits, to_z-of_z w128 b below_fits) sum_fits

pub returns : goal.returns
returns c =
    let worth_fits : SFits w128 c.args.worth = search rules in
    λ s h. plain-run c.loop-i.line c.args.below.now c.args.line.now c.args.worth s
    (rw (to_z-of_z w128 c.args.worth worth_fits) at (c.loop-i.invariant.done s (omega arith)))
