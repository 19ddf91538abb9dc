use Rattle.std.proofs.Common.{◌≡◌, ◌∙◌, ◌<◌, ◌+◌, ◌-◌, ◌*◌, ℕ, ap, arith, get_or, length, map, pos, ◌+ℤ◌, drop, take}
use Rattle.std.specs.Int.{int_max}
use Rattle.std.proofs.lemmas.Grind.{common_steps}
use Rattle.std.proofs.lemmas.List.{length-map, length-take-le, length-drop}
use Rattle.auction_model.specs.Place.{states_of}
use Rattle.auction_model.proofs.RunLaws.{run-back}
use Rattle.value_table.proofs.BlockLaws.{first-inside, one-place}
use Rattle.value_table.proofs.NumberParts.{read-put, read-number, read-first, small-numbers}
use Rattle.value_table.proofs.runs.raise_one.Goals as goal

pub offset_bounds-line-from : goal.offset_bounds-line-from
offset_bounds-line-from g c =
    let b = c.args.block.now in
    let inside = first-inside g.C.Cell.number g.C.Cell.most b.supply.now b.widths.now b.counts.now b.first b.is c.args.line.now c.args.below.now c.args.worth
    c.requires.lines in
    grind (arith, common_steps, inside)

pub slice_bounds-raise_run-count : goal.slice_bounds-raise_run-count
slice_bounds-raise_run-count g c =
    let b = c.args.block.now in
    let inside = first-inside g.C.Cell.number g.C.Cell.most b.supply.now b.widths.now b.counts.now b.first b.is c.args.line.now c.args.below.now c.args.worth
    c.requires.lines in
    grind (arith, common_steps, inside)

pub slice_bounds-raise_run-start : goal.slice_bounds-raise_run-start
slice_bounds-raise_run-start g c =
    let b = c.args.block.now in
    let inside = first-inside g.C.Cell.number g.C.Cell.most b.supply.now b.widths.now b.counts.now b.first b.is c.args.line.now c.args.below.now c.args.worth
    c.requires.lines in
    grind (arith, common_steps, inside)

pub slice_bounds-raise_run-count-2 : goal.slice_bounds-raise_run-count-2
slice_bounds-raise_run-count-2 g c =
    let b = c.args.block.now in
    let inside = first-inside g.C.Cell.number g.C.Cell.most b.supply.now b.widths.now b.counts.now b.first b.is c.args.line.now c.args.below.now c.args.worth
    c.requires.lines in
    grind (arith, common_steps, inside)

pub raise_run-requires-clause-sizes : goal.raise_run-requires-clause-sizes
raise_run-requires-clause-sizes g c =
    let b = c.args.block.now in
    small-numbers g.C.Cell.number c.args.below.now 0 (length c.args.line.now - b.first) g.C.Cell.most c.requires.lines.sizes

pub returns : goal.returns
returns g c =
    let b = c.args.block.now in
    let number = g.C.Cell.number in
    let supply = b.supply.now in
    let line = c.args.line.now in
    let made = c.raise_run.new.line in
    let start = b.first in
    let k = length line - start in
    let inside : start < length line = first-inside number g.C.Cell.most supply b.widths.now b.counts.now start b.is line c.args.below.now c.args.worth
    c.requires.lines in
    let start_is : start ≡ get_or b.counts.now 0 0 * states_of (drop 1 supply) = b.is.place ∙ one-place supply b.counts.now c.requires.one b.is.categories in
    let whole : length (drop start line) ≡ k = length-drop start line in
    let mid : length (take k (drop start line)) ≡ k = length-take-le k (drop start line) (omega arith) in
    let count : length made ≡ k = c.raise_run.auto.line ∙ mid in
    let same : length (map number line) ≡ length line = length-map line number in
    let call : (i : ℕ) → i < k → get_or (map number made) i (pos 0) ≡ int_max (get_or (map number line) (start + i) (pos 0))
    (number c.args.worth +ℤ get_or (map number c.args.below.now) i (pos 0)) =
    λ i h.
    let own : i < length (take k (drop start line)) = omega (arith, mid) in
    c.raise_run.ensures i own
    ∙ ap (λ z. int_max z (number c.args.worth +ℤ get_or (map number (take k c.args.below.now)) i (pos 0))) (read-number number line start k i h)
    ∙ ap (λ z. int_max (get_or (map number line) (start + i) (pos 0)) (number c.args.worth +ℤ z)) (read-first number c.args.below.now k i h) in
    λ s h. read-put number start k line made s
    ∙ run-back supply b.counts.now (map number c.args.below.now) (map number line) (map number made) (number c.args.worth) c.requires.one (omega (arith, b.is.categories, c.requires.one))
    (same ∙ c.requires.lines.line) start k start_is (omega (arith, same)) (omega (arith, same, inside)) (length-map made number ∙ count) call s
    (omega (arith, same, h))
