use Rattle.std.proofs.Common.{◌+◌, ◌^◌, ◌<◌, ◌∙◌, ℕ, ℤ, length, unsigned_abs, sym, ap, subst, rules, arith}
use Rattle.std.proofs.lemmas.Int.{ints, to_z-of_z}
use mir.Val.{SFits}
use mir.Syntax.{w128}
use Rattle.auction_model.specs.Table.{entry_at}
use Rattle.slot_places.proofs.SetBits.{joined-small}
use Rattle.placement_check.proofs.SetTables.{sets-width, sets-range}
use Rattle.placement_check.proofs.tables.keeps_bid.Goals as goal

pub entry-behind-requires-clause-place : goal.entry-behind-requires-clause-place
entry-behind-requires-clause-place c =
    let n = length c.args.offers.now.slots.now.bidders in
    let width = sets-width (2 ^ n) c.args.table.now c.requires.shape in
    let small = joined-small n c.args.set c.args.j c.requires.set c.requires.bidder.0 c.requires.bidder.1 c.requires.new in
    omega (arith, width, small, c.weight.ensures)

pub covers-requires-clause-behind : goal.covers-requires-clause-behind
covers-requires-clause-behind c =
    let n = length c.args.offers.now.slots.now.bidders in
    let behind_fits : SFits w128 c.entry-behind.result = search rules in
    let range = sets-range (2 ^ n) c.args.table.now c.requires.shape (c.args.set + c.weight.result) in
    rw (to_z-of_z w128 c.entry-behind.result behind_fits) (subst (λ (z : ℤ). unsigned_abs z < 2 ^ 120) (sym c.entry-behind.ensures) range)

pub returns : goal.returns
returns c =
    let worth_fits : SFits w128 c.worth.result = search rules in
    let behind_fits : SFits w128 c.entry-behind.result = search rules in
    let entry_fits : SFits w128 c.entry.result = search rules in
    let test = rw (to_z-of_z w128 c.worth.result worth_fits, to_z-of_z w128 c.entry-behind.result behind_fits, to_z-of_z w128 c.entry.result entry_fits)
    at c.covers.ensures in
    let behind = c.entry-behind.ensures ∙ ap (λ (n : ℕ). entry_at c.args.table.now 0 (c.args.set + n)) c.weight.ensures in
    let worth = c.worth.ensures.worth in
    let own = c.entry.ensures in
    let may = sym c.starts_after.ensures ∙ c.if-not-starts_after.false in (
      λ t _. (let h = test.0 t in omega (arith, ints, h, behind, worth, own)),
      λ keeps. test.1 (let h = keeps may in omega (arith, ints, h, behind, worth, own)),
    )
