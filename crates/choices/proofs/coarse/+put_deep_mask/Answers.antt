use Rattle.std.proofs.Common.{◌≤◌, ap, arith, length, drop, List, ℕ}
use Rattle.choices.specs.Coarse.{HasMask}
use Rattle.std.proofs.lemmas.List.{take_rest}
use Rattle.choices.proofs.CoarseLaws.{mask-up}
use Rattle.choices.proofs.coarse.+put_deep_mask.Goals as goal

pub returns-clause-mask : goal.returns-clause-mask
returns-clause-mask t c =
    let supply = c.args.supply.now in
    let lots = c.args.lots.now in
    let level = c.put_deep_mask.result in
    let mask = c.put_deep_mask.new.mask in
    let le : level ≤ length (drop 1 lots) = omega (arith, c.put_deep_mask.ensures.most, ap (λ (l : List ℕ). length l) (take_rest lots 1)) in
    let has : HasMask level (drop 1 supply) (drop 1 lots) mask = rw (take_rest supply 1, take_rest lots 1) at c.put_deep_mask.ensures.mask in
    mask-up level supply lots mask c.requires.some (omega (arith, c.requires.some, c.requires.categories)) le has
