use Rattle.line_format.proofs.SomeAnswer.{some_answer}
use Rattle.edits_file.specs.EditsForm.{AreNamedEdits, lines}
use Rattle.edits_file.proofs.EditsDecided.{ends, leads}
use Rattle.edits_file.proofs.Reading.{IsSound, NamedStep, named_excess, begin, finish, reads}
use Rattle.edits_file.proofs.laws.some_edits.Goals as goal

pub returns : goal.returns
returns c = λ categories bytes.
    some_answer (IsSound categories) (NamedStep categories) named_excess begin finish (AreNamedEdits categories) lines (reads categories)
    (leads categories) ends bytes
