use Rattle.std.proofs.Common.{◌≡◌, ◌<◌, ◌≤◌, ◌+◌, ◌-◌, ◌^◌, ℕ, arith, map, get_or, length, ℤ, pos, ◌+ℤ◌}
use Rattle.std.proofs.lemmas.List.{length-map, map-set}
use Rattle.value_table.proofs.ShortLaws.{small-short, sum-short}
use Rattle.value_table.proofs.Places.{done-more, rest-more}
use Rattle.value_table.proofs.cell.U32Cell.add_to_each.Goals as goal

pub overflow_add-line : goal.overflow_add-line
overflow_add-line c =
    let at = c.loop-place.place in
    let of = λ (n : ℕ). pos n in
    let first : get_or (map of c.loop-place.line) at (pos 0) ≡ get_or (map of c.args.line.now) at (pos 0) =
    c.loop-place.invariant.rest at (omega arith) in
    let size : get_or c.loop-place.line at 0 ≤ 2 ^ 31 - 1 = small-short c.loop-place.line at (2 ^ 31 - 1) (rw first (c.requires.sizes at)) in
    omega (arith, size, c.requires.amount)

pub loop-place-preserved : goal.loop-place-preserved
loop-place-preserved c =
    let of = λ (n : ℕ). pos n in
    let line = c.loop-place.line in
    let at = c.loop-place.place in
    let made = get_or line at 0 + c.args.amount in
    let f = λ (s : ℕ) (z : ℤ). z +ℤ pos c.args.amount in
    let inside : at < length (map of line) = omega (arith, length-map line of) in
    rw (map-set of line at made) (record {
      done = done-more f (map of line) (map of c.args.line.now) at (pos made) inside c.loop-place.invariant.rest c.loop-place.invariant.done
          (sum-short line at c.args.amount);
      rest = rest-more f (map of line) (map of c.args.line.now) at (pos made) inside c.loop-place.invariant.rest;
    })
