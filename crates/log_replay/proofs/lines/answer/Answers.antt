use Rattle.log_replay.proofs.ReplayLaws.{answers}
use Rattle.log_replay.proofs.lines.answer.Goals as goal

pub returns-in_default-clause-answers : goal.returns-in_default-clause-answers
returns-in_default-clause-answers c = answers c.args.desk.now c.take.new.self c.args.line.now c.take.result c.take.ensures.stands c.in_default.not-Memory
