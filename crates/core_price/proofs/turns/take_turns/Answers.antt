-- A turn: its point, the look for a block, and one row more or the end.
use Rattle.std.proofs.Common.{◌≡◌, [], ◌∷◌, ◌++◌, ◌<◌, ◌^◌, ap, arith, rules, ◌∙◌, ◌+◌, length, refl, sym, to_z, of_z}
use Rattle.std.proofs.lemmas.Int.{to_z-of_z}
use Rattle.std.specs.Int.{w128}
use Rattle.std.specs.declared.option.Option.TheVariants.{Some}
use Rattle.auction_model.specs.Prices.{IsUnblocked}
use Rattle.blocking.specs.declared.look.Block.{Block}
use Rattle.blocking.specs.Look.{IsBlock}
use Rattle.core_laws.specs.Winners.{for_bidders, winners_in}
use Rattle.nearest_point.specs.Shown.{IsShownNearest}
use Rattle.core_price.specs.SoFar.{IsSoFar}
use Rattle.core_price.specs.Turns.{point_of}
use Rattle.core_laws.specs.Weights.{weights_in}
use Rattle.core_price.specs.declared.priced.Turn.{Turn}
use Rattle.core_price.proofs.AskedLaws.{choices-block, choices-last, rows-block, rows-last}
use Rattle.core_price.proofs.LookLaws.{can-look}
use Rattle.core_price.proofs.TurnLaws.{at-nonneg, can-solve, den-positive, ends, next, turns-few}
use Rattle.core_price.proofs.turns.take_turns.Goals as goal
use lib.ListN.{length-append}

pub turn_point-requires : goal.turn_point-requires
turn_point-requires g c =
    let m = g.C.Chooser.market c.args.chooser.now in
    let z = g.C.Chooser.chosen c.args.chooser.now in
    let ws = c.args.weights.now in
    rw (c.deref.ensures.value, c.deref-in-turns.ensures.value, c.in_ok-own.ensures, c.winners.ensures)
    (can-solve m z c.args.prices.now ws c.requires.can c.turns.asked.rows.items c.turns.asked.choices.items c.turns.turns c.turns.invariant.far)

pub find_block-requires : goal.find_block-requires
find_block-requires g c =
    let m = g.C.Chooser.market c.args.chooser.now in
    let z = g.C.Chooser.chosen c.args.chooser.now in
    let lawful = g.met.C.Chooser.lawful c.args.chooser.now in
    let win = g.met.C.Chooser.winning c.args.chooser.now in
    let prices = c.args.prices.now in
    let ws = c.args.weights.now in
    let can = c.requires.can in
    let rows = c.turns.asked.rows.items in
    let choices = c.turns.asked.choices.items in
    let past = c.turns.turns in
    let far : IsSoFar m z ws rows choices past = c.turns.invariant.far in
    let near = c.in_ok-near.near in
    let d : to_z w128 (of_z w128 c.in_ok-near.near.den) ≡ c.in_ok-near.near.den = to_z-of_z w128 c.in_ok-near.near.den (search rules) in
    let answer : IsShownNearest prices (weights_in z ws) rows near.den near.at near.first near.second =
    rw (c.deref.ensures.value, c.deref-in-turns.ensures.value, c.in_ok-own.ensures, c.winners.ensures) at c.in_ok-near.ensures.shown in
    let spread : c.deref-in-turns-2.result.now ≡ for_bidders z near.at = c.deref-in-turns-2.ensures.value ∙ c.in_ok-at.ensures
    ∙ ap (λ l. for_bidders l c.items.result.now) c.winners-in-turns.ensures ∙ ap (for_bidders z) c.items.ensures in
    let low = at-nonneg m lawful z win prices ws can rows choices past far near.den near.at near.first near.second answer in
    let dp = den-positive m lawful z win prices ws can rows choices past far near.den near.at near.first near.second answer in
    rw (d, spread) (can-look m lawful z win can.members can.few.0 can.worth near.den near.at (answer.long_at ∙ can.long) dp answer.small_den low
    answer.small_at)

pub returns-in-Free-clause-ended : goal.returns-in-Free-clause-ended
returns-in-Free-clause-ended g c =
    let m = g.C.Chooser.market c.args.chooser.now in
    let z = g.C.Chooser.chosen c.args.chooser.now in
    let lawful = g.met.C.Chooser.lawful c.args.chooser.now in
    let win = g.met.C.Chooser.winning c.args.chooser.now in
    let prices = c.args.prices.now in
    let ws = c.args.weights.now in
    let can = c.requires.can in
    let rows = c.turns.asked.rows.items in
    let choices = c.turns.asked.choices.items in
    let past = c.turns.turns in
    let far : IsSoFar m z ws rows choices past = c.turns.invariant.far in
    let near = c.in_ok-near.near in
    let d : to_z w128 (of_z w128 c.in_ok-near.near.den) ≡ c.in_ok-near.near.den = to_z-of_z w128 c.in_ok-near.near.den (search rules) in
    let answer : IsShownNearest prices (weights_in z ws) rows near.den near.at near.first near.second =
    rw (c.deref.ensures.value, c.deref-in-turns.ensures.value, c.in_ok-own.ensures, c.winners.ensures) at c.in_ok-near.ensures.shown in
    let spread : c.deref-in-turns-2.result.now ≡ for_bidders z near.at = c.deref-in-turns-2.ensures.value ∙ c.in_ok-at.ensures
    ∙ ap (λ l. for_bidders l c.items.result.now) c.winners-in-turns.ensures ∙ ap (for_bidders z) c.items.ensures in
    let free : IsUnblocked m z (point_of z near.den near.at) = rw (c.in-Free.is, d, spread) at c.in_ok-last.ensures.free in
    rw (c.in_ok-add_last-in-Free.ensures) (ends m lawful z win prices ws can rows choices past far near.den near.at near.first near.second answer
    c.in_ok-near.ensures.lowest free)

pub returns-in-Free-clause-rows : goal.returns-in-Free-clause-rows
returns-in-Free-clause-rows g c = rw (c.in_ok-add_last-in-Free.ensures) (c.turns.invariant.rows ∙ ap (λ l. c.args.asked.rows.items ++ l)
    (sym (rows-last c.turns.turns _ refl)))

pub returns-in-Free-clause-choices : goal.returns-in-Free-clause-choices
returns-in-Free-clause-choices g c = rw (c.in_ok-add_last-in-Free.ensures) (c.turns.invariant.choices
    ∙ ap (λ l. c.args.asked.choices.items ++ l) (sym (choices-last c.turns.turns _ refl)))

pub turns-smaller : goal.turns-smaller
turns-smaller g c =
    let m = g.C.Chooser.market c.args.chooser.now in
    let z = g.C.Chooser.chosen c.args.chooser.now in
    let few : length c.turns.turns < 2 ^ winners_in z = turns-few m z c.args.weights.now c.turns.asked.rows.items c.turns.asked.choices.items c.turns.turns
    c.turns.invariant.far in
    let more : length c.add_block.new.turns ≡ length c.turns.turns + 1 = ap length c.in_ok-add_block-in-Block.ensures.turns
    ∙ length-append c.turns.turns (_ ∷ []) in
    omega (arith, few, more)

pub turns-preserved : goal.turns-preserved
turns-preserved g c =
    let m = g.C.Chooser.market c.args.chooser.now in
    let z = g.C.Chooser.chosen c.args.chooser.now in
    let lawful = g.met.C.Chooser.lawful c.args.chooser.now in
    let win = g.met.C.Chooser.winning c.args.chooser.now in
    let prices = c.args.prices.now in
    let ws = c.args.weights.now in
    let can = c.requires.can in
    let rows = c.turns.asked.rows.items in
    let choices = c.turns.asked.choices.items in
    let past = c.turns.turns in
    let far : IsSoFar m z ws rows choices past = c.turns.invariant.far in
    let near = c.in_ok-near.near in
    let d : to_z w128 (of_z w128 c.in_ok-near.near.den) ≡ c.in_ok-near.near.den = to_z-of_z w128 c.in_ok-near.near.den (search rules) in
    let answer : IsShownNearest prices (weights_in z ws) rows near.den near.at near.first near.second =
    rw (c.deref.ensures.value, c.deref-in-turns.ensures.value, c.in_ok-own.ensures, c.winners.ensures) at c.in_ok-near.ensures.shown in
    let spread : c.deref-in-turns-2.result.now ≡ for_bidders z near.at = c.deref-in-turns-2.ensures.value ∙ c.in_ok-at.ensures
    ∙ ap (λ l. for_bidders l c.items.result.now) c.winners-in-turns.ensures ∙ ap (for_bidders z) c.items.ensures in
    let block : IsBlock m z near.den (for_bidders z near.at) c.in-Block.block = rw (c.in-Block.is, d, spread) at c.in_ok-last.ensures.block in
    let b : Block = c.in-Block.block in
    let turn : Turn = record { den = near.den; at = near.at; block = Some b } in
    rw (
      c.in_ok-add_block-in-Block.ensures.rows,
      c.in_ok-add_block-in-Block.ensures.choices,
      c.in_ok-add_block-in-Block.ensures.turns,
    ) record {
      far = next m lawful z win prices ws can rows choices past far near.den near.at near.first near.second answer b block turn refl;
      rows = rows-block rows c.args.asked.rows.items past turn b refl c.turns.invariant.rows;
      choices = choices-block choices c.args.asked.choices.items past turn b refl c.turns.invariant.choices;
    }
