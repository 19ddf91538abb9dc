use Rattle.std.proofs.Common.{◌≡◌, ◌∙◌, ◌<◌, ◌≤◌, ◌^◌, ℕ, sym, ap, arith, rules, get_or, length, ℤ, pos, ◌+ℤ◌, unsigned_abs}
use Rattle.std.proofs.lemmas.Int.{to_z-of_z}
use Rattle.value_table.proofs.NumberParts.{read-plain}
use Rattle.value_table.proofs.Places.{done-more, rest-more}
use mir.Val.{SFits, to_z, of_z}
use mir.Syntax.{w128}
use Rattle.value_table.proofs.cell.I128Cell.add_to_each.Goals as goal

pub overflow_add-line : goal.overflow_add-line
overflow_add-line c =
    let at = c.loop-place.place in
    let old = get_or c.loop-place.line at (pos 0) in
    let first : old ≡ get_or c.args.line.now at (pos 0) = c.loop-place.invariant.rest at (omega arith) in
    let size : unsigned_abs old ≤ 2 ^ 120 = rw first (rw (read-plain c.args.line.now at) at (c.requires.sizes at)) in
    let amount_fits : SFits w128 c.args.amount = search rules in
    let old_fits : SFits w128 old = search rules in
    let sum_fits : SFits w128 (old +ℤ c.args.amount) = search rules in
    rw (to_z-of_z w128 c.args.amount amount_fits, to_z-of_z w128 old old_fits) sum_fits

pub loop-place-preserved : goal.loop-place-preserved
loop-place-preserved c =
    let line = c.loop-place.line in
    let at = c.loop-place.place in
    let amount = to_z w128 (of_z w128 c.args.amount) in
    let old = get_or line at (pos 0) in
    let inside : at < length line = omega arith in
    let first : old ≡ get_or c.args.line.now at (pos 0) = c.loop-place.invariant.rest at (omega arith) in
    let size : unsigned_abs old ≤ 2 ^ 120 = rw first (rw (read-plain c.args.line.now at) at (c.requires.sizes at)) in
    let amount_fits : SFits w128 c.args.amount = search rules in
    let old_fits : SFits w128 old = search rules in
    let sum_fits : SFits w128 (old +ℤ c.args.amount) = search rules in
    let same : amount ≡ c.args.amount = to_z-of_z w128 c.args.amount amount_fits in
    let made = to_z w128 (of_z w128 (to_z w128 (of_z w128 old) +ℤ amount)) in
    let f = λ (s : ℕ) (z : ℤ). z +ℤ amount in
    let is : made ≡ f at old =
    ap (λ (z : ℤ). to_z w128 (of_z w128 (z +ℤ amount))) (to_z-of_z w128 old old_fits)
    ∙ ap (λ (z : ℤ). to_z w128 (of_z w128 (old +ℤ z))) same
    ∙ to_z-of_z w128 (old +ℤ c.args.amount) sum_fits
    ∙ ap (λ (z : ℤ). old +ℤ z) (sym same) in
    record {
      done = done-more f line c.args.line.now at made inside c.loop-place.invariant.rest c.loop-place.invariant.done is;
      rest = rest-more f line c.args.line.now at made inside c.loop-place.invariant.rest;
    }
