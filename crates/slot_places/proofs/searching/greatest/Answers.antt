use Rattle.std.proofs.Common.{◌≡◌, ◌∙◌, rules, sym, subst, ap}
use Rattle.std.proofs.lemmas.Int.{to_z-of_z}
use Rattle.auction_model.specs.Market.{sum_after}
use Rattle.auction_model.specs.Greatest.{IsFirstGreatest}
use Rattle.slot_places.specs.Board.{is_placed}
use Rattle.slot_places.specs.Steps.{searched, counted}
use Rattle.slot_places.proofs.TableLaws.{bests-first, first-placed, first-sum}
use mir.Val.{SFits}
use mir.Syntax.{w128}
use Rattle.slot_places.proofs.searching.greatest.Goals as goal

pub returns-clause-choice : goal.returns-clause-choice
returns-clause-choice c =
    let l = c.args.search.now in
    let best = bests-first l c.in_ok-bests.bests.items c.index-first.result.now c.in_ok-bests.ensures c.index-first.ensures in
    let is : c.in_ok-choice.choice ≡ c.index-first.result.now.numbers.items = c.in_ok-choice.ensures ∙ c.deref-2.ensures.value in
    subst (IsFirstGreatest (is_placed (searched l)) (sum_after (counted l) 0)) (sym is) (first-placed l c.index-first.result.now best)

pub returns-clause-sum : goal.returns-clause-sum
returns-clause-sum c =
    let l = c.args.search.now in
    let best = bests-first l c.in_ok-bests.bests.items c.index-first.result.now c.in_ok-bests.ensures c.index-first.ensures in
    let is : c.in_ok-choice.choice ≡ c.index-first.result.now.numbers.items = c.in_ok-choice.ensures ∙ c.deref-2.ensures.value in
    let fits : SFits w128 c.index-first.result.now.sum = search rules in
    to_z-of_z w128 c.index-first.result.now.sum fits ∙ first-sum l c.index-first.result.now best ∙ ap (sum_after (counted l) 0) (sym is)
