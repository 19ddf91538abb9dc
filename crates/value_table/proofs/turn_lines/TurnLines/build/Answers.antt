use Rattle.std.proofs.Common.{◌≡◌, ◌∙◌, ap, map, pos, refl, replicate}
use Rattle.std.proofs.lemmas.List.{length-map, length-replicate}
use Rattle.std.proofs.lemmas.Result.{IfOk-weaker}
use Rattle.auction_model.specs.Place.{states_of}
use Rattle.auction_model.proofs.LineLaws.{line-last}
use Rattle.auction_model.proofs.LinesLaws.{table-from_lines}
use Rattle.value_table.specs.Counted.{counted_bids, counted}
use Rattle.value_table.specs.TurnLines.{lines_in}
use Rattle.value_table.proofs.ShortLaws.{zeros-short}
use Rattle.value_table.proofs.turn_lines.TurnLines.build.Goals as goal

pub lines_from-requires-clause-first : goal.lines_from-requires-clause-first
lines_from-requires-clause-first c =
    let l = c.args.lowered.now in
    let supply = l.book.now.supply in
    let n = c.states.result in
    let zeros : c.deref.result.now ≡ replicate n 0 = c.deref.ensures.value ∙ c.in_ok-zeros.ensures.items_if_clones_equal (λ y h. h) in
    let states : n ≡ states_of supply = c.states.ensures.states ∙ ap states_of c.supply.ensures.supply in
    rw (c.bidders.ensures.bidders, zeros) (line-last (counted_bids l) (counted l) supply (counted_bids l).bidders (map (λ n. pos n) (replicate n 0)) refl
    (length-map (replicate n 0) (λ n. pos n) ∙ length-replicate n 0 ∙ states) (λ s h. zeros-short n s))

pub returns : goal.returns
returns c =
    let l = c.args.lowered.now in
    IfOk-weaker c.lines_from.result _ _ (λ t lines. table-from_lines (counted_bids l) (counted l) l.book.now.supply (lines_in t)
    (rw c.bidders.ensures.bidders at lines)) c.lines_from.ensures
