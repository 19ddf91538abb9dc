use Rattle.std.proofs.Common.{◌≡◌, ◌∙◌, ◌≤◌, ◌<◌, ◌-◌, ℕ, ℤ, List, [], sym, subst, arith, rules, get_or, length}
use Rattle.std.proofs.lemmas.Int.{to_z-of_z}
use Rattle.std.proofs.lemmas.List.{map-id}
use Rattle.auction_model.specs.Place.{left_at, states_of}
use Rattle.auction_model.specs.Table.{IsEntry, entry_at}
use Rattle.value_table.specs.Counted.{counted_bids, counted, IsCountedLine, IsCountedTable}
use Rattle.value_table.specs.declared.lowered_bids.LoweredBids.{LoweredBids}
use mir.Val.{SFits}
use mir.Syntax.{w128}
use Rattle.value_table.proofs.tracing.grid_step.Goals as goal

module _ (l : LoweredBids) (lines : List (List ℤ)) (table : IsCountedTable l lines) (j : ℕ) (inside : j ≤ length l.book.now.bidders) where
  -- the line of the bidders after j
  line-after : IsCountedLine l j (get_or lines j [])
  line-after = table.exact j inside

  -- an entry of the line above it
  entry-before : (place : ℕ) (here : ℤ) → place < states_of l.book.now.supply → here ≡ entry_at lines (j - 1) place
      → IsEntry (counted_bids l) (counted l) (j - 1) (left_at l.book.now.supply place) here
  entry-before place here below is =
      let line = table.exact (j - 1) (omega (arith, inside)) in
      subst (IsEntry (counted_bids l) (counted l) (j - 1) (left_at l.book.now.supply place)) (sym is) (line.exact place below)

pub entry-here-requires-clause-place : goal.entry-here-requires-clause-place
entry-here-requires-clause-place c =
    let first = c.requires.table.exact 0 (omega arith) in
    omega (arith, first.places, c.requires.place)

pub next_step-requires-clause-here : goal.next_step-requires-clause-here
next_step-requires-clause-here c =
    let here = c.entry-here.result in
    let here_fits : SFits w128 here = search rules in
    rw (to_z-of_z w128 here here_fits)
    (entry-before c.args.lowered.now c.args.lines.now c.requires.table c.args.j c.requires.bidder.1 c.args.place here c.requires.place c.entry-here.ensures)

pub next_step-requires-clause-below : goal.next_step-requires-clause-below
next_step-requires-clause-below c =
    let l = c.args.lowered.now in
    subst (IsCountedLine l c.args.j) (sym c.in-Short.ensures) (line-after l c.args.lines.now c.requires.table c.args.j c.requires.bidder.1)

pub next_step-requires-in-Wide-clause-here : goal.next_step-requires-in-Wide-clause-here
next_step-requires-in-Wide-clause-here c =
    let here = c.entry-here.result in
    let here_fits : SFits w128 here = search rules in
    rw (to_z-of_z w128 here here_fits)
    (entry-before c.args.lowered.now c.args.lines.now c.requires.table c.args.j c.requires.bidder.1 c.args.place here c.requires.place c.entry-here.ensures)

pub next_step-requires-in-Wide-clause-below : goal.next_step-requires-in-Wide-clause-below
next_step-requires-in-Wide-clause-below c =
    let l = c.args.lowered.now in
    subst (IsCountedLine l c.args.j) (sym (map-id c.in-Wide.below.now ∙ c.in-Wide.ensures))
    (line-after l c.args.lines.now c.requires.table c.args.j c.requires.bidder.1)
