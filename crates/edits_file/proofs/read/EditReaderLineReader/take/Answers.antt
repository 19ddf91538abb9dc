use Rattle.edits_file.proofs.read.EditReaderLineReader.take.Goals as goal

pub returns-clause-limit : goal.returns-clause-limit
returns-clause-limit c = λ excess err. c.take_line.ensures.limit excess.0 excess.1 err
