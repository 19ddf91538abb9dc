use Rattle.std.proofs.Common.{◌≡◌, ◌∙◌, ◌+◌, ◌-◌, ℕ, List, map, pos, take, drop, length, ap, sym, arith}
use Rattle.choices.specs.GridLines.{numbers_in}
use Rattle.choices.proofs.GridLaws.{part-short}
use Rattle.choices.proofs.grid_line.GridLine.put_part.Goals as goal

pub returns-in-Short : goal.returns-in-Short
returns-in-Short c =
    let from = c.args.from in
    let count = length c.args.to.now in
    let shorts = λ (l : List ℕ). map (λ n. pos n) l in
    let size : from + count - from ≡ count = omega arith in
    c.widen_into.ensures
    ∙ ap (λ (n : ℕ). shorts (take n (drop from c.as_slice.result.now))) size
    ∙ ap (λ (l : List ℕ). shorts (take count (drop from l))) c.as_slice.ensures.value
    ∙ part-short count from c.in-Short.numbers.items.value.items
    ∙ ap (λ line. take count (drop from (numbers_in line))) (sym c.in-Short.is)
