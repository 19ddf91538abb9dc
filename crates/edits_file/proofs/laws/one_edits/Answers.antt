use Rattle.line_format.proofs.OneAnswer.{one_answer}
use Rattle.edits_file.specs.EditsForm.{AreNamedEdits, lines}
use Rattle.edits_file.proofs.Reading.{IsSound, NamedStep, named_excess, begin, finish, reads}
use Rattle.edits_file.proofs.laws.one_edits.Goals as goal

pub returns : goal.returns
returns c = λ categories bytes x y a b.
    one_answer (IsSound categories) (NamedStep categories) named_excess begin finish (AreNamedEdits categories) lines (reads categories) bytes x y a b
