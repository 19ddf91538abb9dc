use Rattle.outcome.proofs.EditReplies.{memory-in_place}
use Rattle.outcome.proofs.reviewing.text.take_edit.Goals as goal

pub returns-in-Memory-clause-memory : goal.returns-in-Memory-clause-memory
returns-in-Memory-clause-memory c =
    memory-in_place c.args.review.now.book c.args.edit.now c.edit.result c.in-Memory.is c.edit.ensures.reply
