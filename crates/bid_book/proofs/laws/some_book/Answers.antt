use Rattle.line_format.proofs.SomeAnswer.{some_answer}
use Rattle.book_grammar.specs.BookForm.{IsBook}
use Rattle.book_grammar.specs.BookLines.{book_lines}
use Rattle.bid_book.specs.Stages.{Step, excess}
use Rattle.bid_book.proofs.BookDecided.{ends, leads}
use Rattle.bid_book.proofs.Reading.{IsSound, begin, finish, reads}
use Rattle.bid_book.proofs.laws.some_book.Goals as goal

pub returns : goal.returns
returns c = some_answer IsSound Step excess begin finish IsBook book_lines reads leads ends
