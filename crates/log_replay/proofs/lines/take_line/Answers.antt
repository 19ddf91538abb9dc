use Rattle.std.proofs.Common.{◌≡◌, ◌++◌, rules}
use Rattle.std.specs.Option.{option_or}
use Rattle.log_replay.specs.Course.{line_at}
use Rattle.log_replay.specs.ReplyLines.{refusal_of}
use Rattle.log_replay.proofs.ReplayLaws.{takes-line}
use Rattle.log_replay.proofs.lines.take_line.Goals as goal

pub returns : goal.returns
returns c =
    let replies : c.add_reply_line.new.text ≡ c.args.course.now.replies ++ line_at c.args.number c.args.line.now c.in_ok-reply.reply c.answer.new.desk = search rules in
    let stop : c.or-course.result ≡ option_or c.args.course.now.stop (refusal_of c.args.line.now c.in_ok-reply.reply) = search rules in
    takes-line c.args.course.now (record { desk = c.answer.new.desk; replies = c.add_reply_line.new.text; stop = c.or-course.result }) c.args.number c.args.line.now
    c.in_ok-reply.reply c.in_ok-reply.ensures.answers replies stop
