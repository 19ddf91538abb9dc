use Rattle.outcome.proofs.TurnLaws.{next-turn, all-turns}
use Rattle.outcome.proofs.turns.rounds_text.Goals as goal

pub loop-i-preserved : goal.loop-i-preserved
loop-i-preserved c = next-turn c.args.winners.now c.args.turns.now c.loop-i.i c.loop-i.text c.loop-i.invariant c.index-turns-i.result c.add_turn.new.text
    c.loop-i-test.true c.index-turns-i.is c.in_ok-add_turn.ensures

pub returns : goal.returns
returns c = all-turns c.args.winners.now c.args.turns.now c.loop-i.i c.loop-i.text c.loop-i.invariant c.loop-i-test.false
