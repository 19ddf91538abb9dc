use Rattle.weights_file.proofs.read.WeightReaderLineReader.take.Goals as goal

pub returns-clause-limit : goal.returns-clause-limit
returns-clause-limit c = λ excess. elim excess [ ]
