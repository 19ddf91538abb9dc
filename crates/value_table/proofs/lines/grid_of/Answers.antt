use Rattle.std.proofs.Common.{◌≡◌, ◌∙◌, ◌+◌, ◌<◌, sym, ap, subst, arith, refl, length, map, get_or, List, [], ◌∷◌, ◌++◌, ℤ, suc}
use Rattle.std.proofs.lemmas.List.{length-map, take_all, take_more}
use Rattle.auction_model.specs.Table.{AreLinesTo, IsLine}
use Rattle.auction_model.proofs.LinesLaws.{line-at, lines-more, lines-width}
use Rattle.value_table.specs.Counted.{counted_bids, counted}
use Rattle.value_table.proofs.TableLines.{entries, lines-even}
use Rattle.value_table.proofs.lines.grid_of.Goals as goal

pub loop-i-init : goal.loop-i-init
loop-i-init g c = rw c.new-grid.ensures (record { made = refl; done = refl })

pub push_line-requires-clause-few : goal.push_line-requires-clause-few
push_line-requires-clause-few g c =
    let l = c.args.lowered.now in
    let number = g.C.Cell.number in
    let lines = c.args.lines.now in
    let all = map (entries number) lines in
    let inside : c.loop-i.i < length all = omega (arith, length-map lines (entries number)) in
    let width = lines-width (counted_bids l) (counted l) l.book.now.supply (length c.args.lines.now) 0 c.loop-i.i all c.requires inside in
    let own : length (map number c.line_at.result.now) ≡ length (get_or all c.loop-i.i []) = ap (λ (z : List ℤ). length z) c.line_at.ensures in
    omega (arith, width, own, length-map c.line_at.result.now number, c.kept.ensures.supply.states)

pub push_line-requires-clause-width : goal.push_line-requires-clause-width
push_line-requires-clause-width g c = λ some.
    let l = c.args.lowered.now in
    let lines = c.args.lines.now in
    let number = g.C.Cell.number in
    let all = map (entries number) lines in
    let inside : c.loop-i.i < length all = omega (arith, length-map lines (entries number)) in
    let width = lines-width (counted_bids l) (counted l) l.book.now.supply (length lines) 0 c.loop-i.i all c.requires inside in
    sym (length-map c.line_at.result.now number) ∙ ap (λ (z : List ℤ). length z) c.line_at.ensures ∙ width ∙ sym (lines-even (counted_bids l)
    (counted l) l.book.now.supply c.loop-i.i c.loop-i.grid c.loop-i.invariant.done some)

pub loop-i-preserved : goal.loop-i-preserved
loop-i-preserved g c =
    let l = c.args.lowered.now in
    let m = counted_bids l in
    let counts = counted l in
    let supply = l.book.now.supply in
    let lines = c.args.lines.now in
    let all = map (entries g.C.Cell.number) lines in
    let i = c.loop-i.i in
    let line = get_or all i [] in
    let inside : i < length all = omega (arith, length-map lines (entries g.C.Cell.number)) in
    let up : suc i ≡ i + 1 = omega arith in
    let made : c.push_line.new.grid ≡ c.loop-i.grid ++ line ∷ [] = c.in_ok-push_line.ensures
    ∙ ap (λ (z : List ℤ). c.loop-i.grid ++ z ∷ []) c.line_at.ensures in
    let from : 0 + i ≡ i = omega arith in
    let own : IsLine m counts supply i line = rw from at (line-at m counts supply (length c.args.lines.now) 0 i all c.requires inside) in
    let more : AreLinesTo m counts supply (suc i) 0 c.push_line.new.grid =
    subst (AreLinesTo m counts supply (suc i) 0) (sym made) (lines-more m counts supply i 0 c.loop-i.grid line c.loop-i.invariant.done own) in
    record {
      made = made ∙ ap (λ (h : List (List ℤ)). h ++ line ∷ []) c.loop-i.invariant.made ∙ sym (take_more all i [] inside);
      done = subst (λ n. AreLinesTo m counts supply n 0 c.push_line.new.grid) up more;
    }

pub returns : goal.returns
returns g c =
    let lines = c.args.lines.now in
    let all = map (entries g.C.Cell.number) lines in
    c.loop-i.invariant.made ∙ take_all c.loop-i.i all (omega (arith, length-map lines (entries g.C.Cell.number)))
