use Rattle.log_replay.proofs.ReplayLaws.{line-at, takes-all, takes-next}
use Rattle.log_replay.proofs.replaying.take_all.Goals as goal

pub take_line-requires : goal.take_line-requires
take_line-requires c = line-at c.args.award c.args.log.now c.items-line-items.result.now c.loop-i.i c.line-item.result c.loop-i.course.desk
    c.items-line-items.ensures c.loop-i-test.true c.line-item.is c.loop-i.invariant.desk c.requires

pub loop-i-preserved : goal.loop-i-preserved
loop-i-preserved c =
    takes-next c.args.award c.args.log.now c.items-line-items.result.now c.loop-i.i c.line-item.result c.loop-i.course c.take_line.new.course
    c.items-line-items.ensures c.loop-i-test.true c.line-item.is c.loop-i.invariant
    c.in_ok-take_line.ensures

pub returns : goal.returns
returns c = takes-all c.args.award c.args.log.now c.items-line-items.result.now c.loop-i.i c.loop-i.course c.items-line-items.ensures c.loop-i-test.false
    c.loop-i.invariant
