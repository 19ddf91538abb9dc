use Rattle.std.proofs.Common.{◌∙◌, sym}
use Rattle.log_replay.proofs.ReplayLaws.{book-closed, book-open}
use Rattle.log_replay.proofs.replaying.book_of.Goals as goal

pub returns-in-Ok : goal.returns-in-Ok
returns-in-Ok c = book-closed c.args.desk.now c.in-Ok.book (sym c.in-Closed.ensures) c.in-Ok.ensures.log

pub returns-in_default : goal.returns-in_default
returns-in_default c = λ terms log is. sym (book-open c.args.desk.now (λ closed. c.in_default.not-Closed (c.stage.ensures ∙ closed)) terms log is)
