use Rattle.std.proofs.Common.{◌∙◌, ap, map}
use Rattle.std.proofs.lemmas.List.{map-append}
use Rattle.serde_json.specs.View.{view}
use Rattle.outcome.proofs.JsonLists.{all-rounds, next-round}
use Rattle.outcome.proofs.json_values.round_values.Goals as goal

pub loop-i-preserved : goal.loop-i-preserved
loop-i-preserved c =
    next-round c.args.winners.now c.args.turns.now c.loop-i.i (map view c.loop-i.values.items) c.loop-i.invariant c.index-turns-i.result
    (map view c.push.new.self.items) (view c.in_ok-round.round)
    c.loop-i-test.true c.index-turns-i.is c.in_ok-round.ensures (ap (map view) c.in_ok-push.ensures.items ∙ map-append view c.loop-i.values.items _)

pub returns : goal.returns
returns c = (
  map view c.loop-i.values.items,
  all-rounds c.args.winners.now c.args.turns.now c.loop-i.i
      (map view c.loop-i.values.items) c.loop-i.invariant c.loop-i-test.false,
  c.list_value.ensures,
)
