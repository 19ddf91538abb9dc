use Rattle.std.proofs.Common.{◌≡◌, ◌∙◌, ◌≤◌, List, [], ◌∷◌, ◌++◌, length, map, arith, sym, subst, ap, ℤ}
use Rattle.std.proofs.lemmas.List.{take_all}
use Rattle.slot_places.specs.SetTable.{IsSetTable}
use Rattle.slot_places.specs.Steps.{searched, counted}
use Rattle.slot_places.proofs.TableLaws.{sum_of, table-of}
use Rattle.slot_places.proofs.searching.grid_of.Goals as goal

pub returns : goal.returns
returns c =
    let l = c.args.search.now in
    let bests = c.args.bests.now in
    let all : length bests ≤ c.loop-best.best-index = omega arith in
    let items : c.loop-best.line.items ≡ map sum_of bests = c.loop-best.invariant ∙ ap (map sum_of) (take_all c.loop-best.best-index bests all) in
    let whole : c.push_line.new.self ≡ map sum_of bests ∷ [] =
    c.in_ok-push_line.ensures.pushed ∙ (ap (λ (g : List (List ℤ)). g ++ c.from_vec.result ∷ []) c.new-grid.ensures
    ∙ ap (λ (x : List ℤ). x ∷ []) (c.from_vec.ensures ∙ items)) in
    subst (IsSetTable (searched l) (counted l)) (sym whole) (table-of l bests c.requires)
