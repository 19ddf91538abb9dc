use Rattle.std.proofs.Common.{rules}
use Rattle.std.proofs.lemmas.Int.{to_z-of_z}
use Rattle.auction_model.specs.Lowered.{lowered}
use Rattle.auction_model.specs.Market.{sum_after}
use Rattle.auction_model.specs.Greatest.{IsFirstGreatest}
use Rattle.slot_places.specs.Slots.{amount_of}
use Rattle.slot_places.specs.Board.{is_placed, board_without}
use Rattle.slot_places.specs.SetTable.{IsSetTable}
use Rattle.slot_places.proofs.WithoutLaws.{range-of, first-none, table-none}
use mir.Val.{SFits}
use mir.Syntax.{w128}
use Rattle.slot_places.proofs.slot_chooser.SlotChooserChooser.best_lowered.Goals as goal

pub invariant_of-search : goal.invariant_of-search
invariant_of-search c =
    let s = c.args.self.now in
    let den_fits : SFits w128 c.args.den = search rules in
    record {
      bidders = c.requires.bidders;
      range = rw (to_z-of_z w128 c.args.den den_fits) (range-of s.slots.now s.winners c.args.den c.args.surplus.now s.winning c.requires);
    }

pub returns-clause-choice : goal.returns-clause-choice
returns-clause-choice c =
    let slots = c.args.self.now.slots.now in
    let den_fits : SFits w128 c.args.den = search rules in
    let found : IsFirstGreatest (is_placed (board_without slots 0)) (sum_after (lowered c.args.den (amount_of slots) c.args.surplus.now) 0)
    c.in_ok-found.found.choice = rw (to_z-of_z w128 c.args.den den_fits) at c.in_ok-found.ensures.choice in
    first-none slots (sum_after (lowered c.args.den (amount_of slots) c.args.surplus.now) 0) c.in_ok-found.found.choice found

pub returns-clause-table : goal.returns-clause-table
returns-clause-table c =
    let slots = c.args.self.now.slots.now in
    let den_fits : SFits w128 c.args.den = search rules in
    let found : IsSetTable (board_without slots 0) (lowered c.args.den (amount_of slots) c.args.surplus.now) c.in_ok-found.found.table =
    rw (to_z-of_z w128 c.args.den den_fits) at c.in_ok-found.ensures.table in
    table-none slots (lowered c.args.den (amount_of slots) c.args.surplus.now) c.in_ok-found.found.table found
