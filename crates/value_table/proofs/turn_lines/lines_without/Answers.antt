use Rattle.std.proofs.lemmas.Grind.{common_steps}
use Rattle.std.proofs.Common.{◌≡◌, ◌≤◌, ◌+◌, ◌-◌, ◌++◌, [], ◌∷◌, sym, subst, arith, get_or, suc}
use Rattle.auction_model.specs.Book.{menu_of}
use Rattle.auction_model.specs.Table.{AreLinesTo, IsLine}
use Rattle.auction_model.proofs.LinesLaws.{lines-more, table-from_lines}
use Rattle.auction_model.proofs.SkipLaws.{line-past_skip}
use Rattle.value_table.specs.Turned.{in_order}
use Rattle.value_table.specs.Counted.{counted_bids, counted, IsCountedLine}
use Rattle.value_table.proofs.TableLines.{line-left_out}
use Rattle.value_table.proofs.turn_lines.lines_without.Goals as goal

pub lines_from-requires-clause-first : goal.lines_from-requires-clause-first
lines_from-requires-clause-first c =
    let l = c.args.lowered.now in
    subst (IsCountedLine l (l.skip - 1)) (sym c.line.ensures)
    (line-left_out l c.args.whole.now c.requires.bidder.0 c.requires.bidder.1 c.requires.idle c.requires.whole)

pub loop-k-init : goal.loop-k-init
loop-k-init c =
    let l = c.args.lowered.now in
    let j = l.skip in
    let m = counted_bids l in
    let line = get_or c.args.whole.now j [] in
    let up : suc (j - 1) ≡ j = omega (arith, c.requires.bidder.0) in
    let own = line-left_out l c.args.whole.now c.requires.bidder.0 c.requires.bidder.1 c.requires.idle c.requires.whole in
    let all : AreLinesTo m (counted l) l.book.now.supply (suc (j - 1)) 0 c.push_shared.new.self =
    subst (AreLinesTo m (counted l) l.book.now.supply (suc (j - 1)) 0) (sym c.in_ok-push_shared.ensures.pushed)
    (lines-more m (counted l) l.book.now.supply (j - 1) 0 c.in_ok-grid.grid line c.in_ok-grid.ensures own) in
    rw up at all

pub loop-k-preserved : goal.loop-k-preserved
loop-k-preserved c =
    let l = c.args.lowered.now in
    let j = l.skip in
    let k = c.loop-k.k in
    let m = counted_bids l in
    let counts = counted l in
    let supply = l.book.now.supply in
    let line = get_or c.args.whole.now k [] in
    let up : k + 1 ≡ suc k = omega arith in
    let inside : k ≤ m.bidders = omega (arith, c.requires.whole.lines, c.lines-k-end.ensures) in
    let past : j ≤ k = omega (arith, c.requires.bidder.0) in
    let own : IsLine m counts supply k line = line-past_skip (in_order l.turned (menu_of l.book.now)) counts supply j k line past
    (c.requires.whole.exact k inside) in
    let made : c.push_shared-in-loop-k.new.self ≡ c.loop-k.grid ++ line ∷ [] = c.in_ok-push_shared-2.ensures.pushed in
    let all : AreLinesTo m counts supply (suc k) 0 c.push_shared-in-loop-k.new.self = subst (AreLinesTo m counts supply (suc k) 0) (sym made)
    (lines-more m counts supply k 0 c.loop-k.grid line c.loop-k.invariant own) in
    subst (λ n. AreLinesTo m counts supply n 0 c.push_shared-in-loop-k.new.self) (sym up) all

pub returns : goal.returns
returns c =
    let l = c.args.lowered.now in
    let m = counted_bids l in
    let end : c.loop-k.k ≡ suc m.bidders = omega (arith, c.requires.whole.lines, c.lines-k-end.ensures, c.requires.bidder.0, c.requires.bidder.1) in
    let was : AreLinesTo m (counted l) l.book.now.supply c.loop-k.k 0 c.loop-k.grid = c.loop-k.invariant in
    table-from_lines m (counted l) l.book.now.supply c.loop-k.grid (rw end at was)

pub push_shared-requires-clause-width : goal.push_shared-requires-clause-width
push_shared-requires-clause-width c = grind (arith, common_steps)

pub push_shared-requires-in-loop-k-clause-width : goal.push_shared-requires-in-loop-k-clause-width
push_shared-requires-in-loop-k-clause-width c = grind (arith, common_steps)
