use Rattle.bid_book.proofs.read.BookReaderLineReader.take.Goals as goal

pub returns-clause-limit : goal.returns-clause-limit
returns-clause-limit c = λ excess err. c.take_line.ensures.limit excess.0 excess.1 err
