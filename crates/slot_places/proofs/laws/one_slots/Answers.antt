use Rattle.std.proofs.Common.{sym, ◌∙◌}
use Rattle.line_format.proofs.OneAnswer.{one_answer}
use Rattle.slot_places.specs.SlotForm.{IsSlotText, slot_lines}
use Rattle.slot_places.specs.Stages.{Step, excess}
use Rattle.slot_places.proofs.Reading.{IsSound, begin, finish, reads}
use Rattle.slot_places.proofs.laws.one_slots.Goals as goal

pub returns-clause-one : goal.returns-clause-one
returns-clause-one c = one_answer IsSound Step excess begin finish IsSlotText slot_lines reads

pub returns-clause-text : goal.returns-clause-text
returns-clause-text c = λ bytes other slots a b. a.spelled ∙ sym b.spelled
