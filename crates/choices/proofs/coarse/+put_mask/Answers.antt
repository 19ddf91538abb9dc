use Rattle.std.proofs.Common.{◌≡◌, ◌∙◌, ℕ, ◌+◌, ◌*◌, ◌≤◌, ◌<◌, ap, sym, arith, length, get_or, take, drop, List}
use Rattle.std.proofs.lemmas.List.{length-take-le, get_or-take, take_rest}
use Rattle.auction_model.specs.Place.{states_of}
use Rattle.auction_model.proofs.RunLaws.{width-at_most, width-first, widths-count}
use Rattle.choices.specs.Coarse.{Marks}
use Rattle.choices.proofs.CoarseLaws.{marks-run, marks-parts}
use Rattle.choices.proofs.coarse.+put_mask.Goals as goal

pub bounds-widths-0 : goal.bounds-widths-0
bounds-widths-0 t c = rw c.requires.widths (omega (arith, widths-count c.args.supply.now, c.requires.some, c.requires.categories))

pub returns-then-lots-eq1-clause-marks : goal.returns-then-lots-eq1-clause-marks
returns-then-lots-eq1-clause-marks t c =
    let supply = c.args.supply.now in
    let W = get_or c.args.widths.now 0 0 in
    let count = get_or c.args.lots.now 0 0 in
    let width : W ≡ states_of (drop 1 supply) = ap (λ (l : List ℕ). get_or l 0 0) c.requires.widths ∙ width-first supply (omega
    (arith, c.requires.some, c.requires.categories)) in
    marks-run supply c.args.lots.now c.put_run.new.mask (count * W) ((get_or supply 0 0 + 1) * W) c.if-lots-eq1.true c.requires.categories
    (ap (λ (n : ℕ). count * n) width) (ap (λ (n : ℕ). (get_or supply 0 0 + 1) * n) width) c.put_run.ensures.run

pub returns-clause-marks : goal.returns-clause-marks
returns-clause-marks t c =
    let supply = c.args.supply.now in
    let lots = c.args.lots.now in
    let W = get_or c.args.widths.now 0 0 in
    let part = c.put_mask.new.mask in
    let some : 0 < length supply = omega (arith, c.requires.some, c.requires.categories) in
    let width : W ≡ states_of (drop 1 supply) = ap (λ (l : List ℕ). get_or l 0 0) c.requires.widths ∙ width-first supply some in
    let room : W ≤ length part = omega (arith, width, width-at_most supply some, c.requires.room, c.put_mask.ensures.places) in
    let long : length (take W part) ≡ W = length-take-le W part room in
    let marks : Marks (drop 1 supply) (drop 1 lots) part = rw (take_rest supply 1, take_rest lots 1) at c.put_mask.ensures.marks in
    marks-parts supply lots part c.put_parts.new.mask W c.requires.some c.requires.categories width marks
    (λ q i from to low.
    let inside : i < length (take W part) = omega (arith, long, low) in
    ap (λ (n : ℕ). get_or c.put_parts.new.mask (q * n + i) 0) (sym long) ∙ c.put_parts.ensures.parts q i from to inside ∙ get_or-take W part i 0 low)
