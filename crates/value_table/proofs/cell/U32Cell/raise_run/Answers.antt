use Rattle.std.proofs.Common.{◌≡◌, ◌∙◌, ◌<◌, ◌≤◌, ◌-◌, ◌^◌, ℕ, ap, arith, map, get_or, length, ℤ, pos, ◌+ℤ◌}
use Rattle.std.specs.Int.{int_max}
use Rattle.std.proofs.lemmas.List.{length-map, map-set}
use Rattle.value_table.proofs.ShortLaws.{small-short, max-short}
use Rattle.value_table.proofs.Places.{done-more, rest-more}
use Rattle.value_table.proofs.cell.U32Cell.raise_run.Goals as goal

pub loop-i-preserved : goal.loop-i-preserved
loop-i-preserved c =
    let of = λ (n : ℕ). pos n in
    let line = c.loop-i.line in
    let below = c.args.below.now in
    let at = c.loop-i.i in
    let made = c.max.result in
    let f = λ (s : ℕ) (z : ℤ). int_max z (pos c.args.worth +ℤ get_or (map of below) s (pos 0)) in
    let inside : at < length (map of line) = omega (arith, length-map line of) in
    let is : pos made ≡ f at (get_or (map of line) at (pos 0)) = ap of c.max.ensures ∙ max-short line below at c.args.worth in
    rw (map-set of line at made) (record {
      done = done-more f (map of line) (map of c.args.line.now) at (pos made) inside c.loop-i.invariant.rest c.loop-i.invariant.done is;
      rest = rest-more f (map of line) (map of c.args.line.now) at (pos made) inside c.loop-i.invariant.rest;
    })

pub overflow_add-worth : goal.overflow_add-worth
overflow_add-worth c =
    let at = c.loop-i.i in
    let size : get_or c.args.below.now at 0 ≤ 2 ^ 31 - 1 = small-short c.args.below.now at (2 ^ 31 - 1) (c.requires.sizes at) in
    omega (arith, size, c.requires.worth)
