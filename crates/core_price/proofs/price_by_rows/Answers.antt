-- Where the turns end, and the rows that are kept; numbers read from bits are themselves.
use Rattle.std.proofs.Common.{◌≡◌, ◌∙◌, ap, arith, map, rules, subst, to_z, of_z, ◌++◌, List}
use Rattle.std.proofs.lemmas.Int.{to_z-of_z}
use Rattle.std.specs.Int.{w128}
use Rattle.std.specs.List.{IsDistinct}
use Rattle.std.specs.Prelude.{eqb}
use Rattle.far_num.specs.declared.Row.{Row}
use Rattle.core_price.specs.Rows.{asked_choices, asked_rows, block_choices, block_rows, prices_of}
use Rattle.core_price.specs.SoFar.{CanTurn, HasEnded}
use Rattle.core_price.proofs.WeightLaws.{can-weigh}
use Rattle.core_price.proofs.OutcomeLaws.{outcome, range, run}
use Rattle.core_price.proofs.PricedLaws.{are-first, are-kept, are-second, few-kept, in-order, long-at, lowest-kept, seconds-below, sum-first}
use Rattle.core_price.proofs.StartLaws.{can-turn, count, start}
use Rattle.core_price.proofs.price_by_rows.Goals as goal

pub first_rows-requires : goal.first_rows-requires
first_rows-requires g c =
    let m = g.C.Chooser.market c.args.chooser.now in
    let z = g.C.Chooser.chosen c.args.chooser.now in
    let lawful = g.met.C.Chooser.lawful c.args.chooser.now in
    let win = g.met.C.Chooser.winning c.args.chooser.now in
    omega (arith, c.requires.few.0, count m lawful z win c.args.singles.now c.requires.singles)

pub take_turns-requires-clause-can : goal.take_turns-requires-clause-can
take_turns-requires-clause-can g c =
    let m = g.C.Chooser.market c.args.chooser.now in
    let z = g.C.Chooser.chosen c.args.chooser.now in
    let lawful = g.met.C.Chooser.lawful c.args.chooser.now in
    let win = g.met.C.Chooser.winning c.args.chooser.now in
    let ws = c.args.weights.now in
    rw (c.deref.ensures.value, c.in_ok-prices.ensures) (can-turn m lawful z win c.args.singles.now c.requires.singles c.requires.few.0 c.requires.worth
    c.requires.members ws c.requires.few (can-weigh m z ws (lawful.lengths z win.passed) c.requires.weights))

pub take_turns-requires-clause-start : goal.take_turns-requires-clause-start
take_turns-requires-clause-start g c =
    let m = g.C.Chooser.market c.args.chooser.now in
    let z = g.C.Chooser.chosen c.args.chooser.now in
    let lawful = g.met.C.Chooser.lawful c.args.chooser.now in
    let win = g.met.C.Chooser.winning c.args.chooser.now in
    rw (c.in_ok-asked.ensures.rows, c.in_ok-asked.ensures.choices) (start m lawful z win c.args.singles.now c.requires.singles c.requires.few.0
    c.requires.worth c.args.weights.now)

pub returns-clause-priced : goal.returns-clause-priced
returns-clause-priced g c =
    let m = g.C.Chooser.market c.args.chooser.now in
    let z = g.C.Chooser.chosen c.args.chooser.now in
    let lawful = g.met.C.Chooser.lawful c.args.chooser.now in
    let win = g.met.C.Chooser.winning c.args.chooser.now in
    let singles = c.args.singles.now in
    let ws = c.args.weights.now in
    let prices = prices_of singles in
    let can : CanTurn m z prices ws = can-turn m lawful z win singles c.requires.singles c.requires.few.0 c.requires.worth c.requires.members ws
    c.requires.few (can-weigh m z ws (lawful.lengths z win.passed) c.requires.weights) in
    let e = c.in_ok-near.field-0 in
    let rows = e.asked.rows.items in
    let choices = e.asked.choices.items in
    let d : to_z w128 (of_z w128 c.in_ok-near.field-0.near.den) ≡ c.in_ok-near.field-0.near.den = to_z-of_z w128 c.in_ok-near.field-0.near.den (search rules) in
    let ended : HasEnded m z prices ws rows choices e.turns e.near.den e.near.at e.near.first e.near.second =
    rw (c.deref.ensures.value, c.in_ok-prices.ensures) at c.in_ok-near.ensures.ended in
    let kept = c.in_ok-rows.rows in
    let is = c.in_ok-rows.ensures in
    let same : rows ≡ asked_rows singles e.turns = c.in_ok-near.ensures.rows ∙ ap (λ l. l ++ block_rows e.turns) c.in_ok-asked.ensures.rows in
    let same_choices : choices ≡ asked_choices singles e.turns = c.in_ok-near.ensures.choices ∙ ap (λ l. l ++ block_choices e.turns)
    c.in_ok-asked.ensures.choices in
    rw d (record {
      prices = record {
        outcome = outcome m lawful z win prices ws can rows choices e.turns e.near.den e.near.at e.near.first e.near.second ended;
        vickrey = can.vickrey;
        long = long-at m lawful z win prices ws can rows choices e.turns e.near.den e.near.at e.near.first e.near.second ended kept is;
        small = ended.answer.small_at;
        range = range m lawful z win prices ws can rows choices e.turns e.near.den e.near.at e.near.first e.near.second ended;
      };
      turns = record {
        run = run m lawful z win prices ws can rows choices e.turns e.near.den e.near.at e.near.first e.near.second ended;
        few = ended.few_turns;
        each = ended.each;
        last = ended.last;
        distinct = subst (λ (l : List Row). IsDistinct eqb (map (λ r. r.members) l)) same ended.distinct;
      };
      shown = record {
        order = in-order m lawful z win prices ws can rows choices e.turns e.near.den e.near.at e.near.first e.near.second ended kept is
            (asked_rows singles e.turns) (asked_choices singles e.turns) same same_choices;
        few = few-kept m lawful z win prices ws can rows choices e.turns e.near.den e.near.at e.near.first e.near.second ended kept is;
        kept = are-kept m lawful z win prices ws can rows choices e.turns e.near.den e.near.at e.near.first e.near.second ended kept is;
        first = are-first m lawful z win prices ws can rows choices e.turns e.near.den e.near.at e.near.first e.near.second ended kept is;
        first_sums = sum-first m lawful z win prices ws can rows choices e.turns e.near.den e.near.at e.near.first e.near.second ended kept is;
        second = are-second m lawful z win prices ws can rows choices e.turns e.near.den e.near.at e.near.first e.near.second ended kept is;
        small_seconds = seconds-below m lawful z win prices ws can rows choices e.turns e.near.den e.near.at e.near.first e.near.second ended kept is;
        lowest = lowest-kept m lawful z win prices ws can rows choices e.turns e.near.den e.near.at e.near.first e.near.second ended kept is;
      };
      last = c.in_ok-near.ensures.found;
    })
