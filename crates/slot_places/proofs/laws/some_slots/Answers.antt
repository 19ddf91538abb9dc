use Rattle.line_format.proofs.SomeAnswer.{some_answer}
use Rattle.slot_places.specs.SlotForm.{IsSlotText, slot_lines}
use Rattle.slot_places.specs.Stages.{Step, excess}
use Rattle.slot_places.proofs.Reading.{IsSound, begin, finish, reads}
use Rattle.slot_places.proofs.SlotsDecided.{ends, leads}
use Rattle.slot_places.proofs.laws.some_slots.Goals as goal

pub returns : goal.returns
returns c = some_answer IsSound Step excess begin finish IsSlotText slot_lines reads leads ends
