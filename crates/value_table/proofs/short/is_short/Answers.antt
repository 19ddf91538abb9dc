use Rattle.std.proofs.Common.{arith, rules, sym, true, get_or, length, map, pos, ◌^◌, ◌-◌, ◌≤ℤ◌, ◌≡◌}
use Rattle.std.proofs.lemmas.Int.{ints, to_z-of_z}
use Rattle.std.proofs.lemmas.List.{length-map}
use Rattle.std.specs.Int.Signed.{le_z}
use mir.Val.{SFits}
use mir.Syntax.{w128}
use Rattle.auction_model.proofs.PlaceLaws.{states-positive}
use Rattle.value_table.proofs.ShortLaws.{short-within}
use Rattle.value_table.proofs.short.is_short.Goals as goal

pub overflow_sub-below : goal.overflow_sub-below
overflow_sub-below g c =
    omega (arith, c.requires.below.places, length-map c.args.below.now g.C.Cell.number, states-positive c.args.lowered.now.book.now.supply)

pub number_at-requires : goal.number_at-requires
number_at-requires g c =
    omega (arith, c.requires.below.places, length-map c.args.below.now g.C.Cell.number, states-positive c.args.lowered.now.book.now.supply)

pub returns-then-number_at : goal.returns-then-number_at
returns-then-number_at g c = λ yes.
    let below = map g.C.Cell.number c.args.below.now in
    let long = length-map c.args.below.now g.C.Cell.number in
    let top : get_or below (length below - 1) (pos 0) ≤ℤ pos (2 ^ 31 - 1) =
    let fits : SFits w128 c.number_at.result = search rules in
    let small : le_z c.number_at.result (pos (2 ^ 31 - 1)) ≡ true = rw (to_z-of_z w128 c.number_at.result fits) at c.if-number_at.true in
    rw (long, sym c.number_at.ensures) (grind (arith, ints)) in
    short-within c.args.lowered.now c.args.j (2 ^ 31 - 1) below c.requires.bidder.1 c.requires.below top (c.has_short_worths.ensures yes)
