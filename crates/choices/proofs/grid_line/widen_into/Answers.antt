use Rattle.std.proofs.Common.{map, pos, arith}
use Rattle.std.proofs.lemmas.List.{ext_get_or, length-map}
use Rattle.choices.proofs.grid_line.widen_into.Goals as goal

pub returns : goal.returns
returns c =
    let numbers = c.args.numbers.now in
    let same = length-map numbers (λ n. pos n) in
    ext_get_or (pos 0) c.loop-i.to (map (λ n. pos n) numbers) (omega (arith, same)) (λ s h. c.loop-i.invariant s (omega (arith, h, same)))
