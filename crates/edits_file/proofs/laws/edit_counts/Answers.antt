use Rattle.edits_file.proofs.Reading.{counts_of}
use Rattle.edits_file.proofs.laws.edit_counts.Goals as goal

pub returns : goal.returns
returns c = λ book bytes named says. counts_of book named says.valid
