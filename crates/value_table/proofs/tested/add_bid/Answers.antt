use Rattle.std.proofs.Common.{◌≡◌, ◌∙◌, ap, get_or, length, map, pos}
use Rattle.auction_model.specs.Steps.{raised}
use Rattle.auction_model.proofs.TrimLaws.{raised-trim}
use Rattle.value_table.proofs.tested.add_bid.Goals as goal

pub returns-clause-line : goal.returns-clause-line
returns-clause-line g c =
    let number = g.C.Cell.number in
    let block = c.whole-block.result in
    let used = length block.counts.now in
    let below = map number c.args.below.now in
    let worth = number c.args.bid.now.worth in
    λ s h.
    let old = get_or (map number c.args.line.now) s (pos 0) in
    let made : get_or (map number c.raise_lots.new.line) s (pos 0) ≡ raised block.supply.now below block.counts.now worth s old = c.raise_lots.ensures.line s h in
    made ∙ ap (λ l. raised l below block.counts.now worth s old) c.whole-block.ensures.supply
    ∙ ap (λ l. raised c.args.supply.now below l worth s old) c.whole-block.ensures.counts
    ∙ raised-trim used c.args.supply.now c.args.bid.now.lots.now below worth s old c.whole-block.ensures.rest
