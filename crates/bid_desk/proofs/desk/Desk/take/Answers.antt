-- What a desk that answers by its state does with the log that it stands for.
use Rattle.bid_desk.proofs.TakeLaws.{stands-next, view-answers}
use Rattle.bid_desk.proofs.desk.Desk.take.Goals as goal

pub returns-clause-stands : goal.returns-clause-stands
returns-clause-stands c = λ log is. stands-next _ _ _ _ log c.answer.ensures.taken is

pub returns-clause-view : goal.returns-clause-view
returns-clause-view c = λ j log other mine is same. view-answers _ _ _ _ j log other c.answer.ensures.taken mine is same
