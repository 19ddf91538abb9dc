use Rattle.line_format.proofs.OneAnswer.{one_answer}
use Rattle.book_grammar.specs.BookForm.{IsBook}
use Rattle.book_grammar.specs.BookLines.{book_lines}
use Rattle.bid_book.specs.Stages.{Step, excess}
use Rattle.bid_book.proofs.Reading.{IsSound, begin, finish, reads}
use Rattle.bid_book.proofs.laws.one_book.Goals as goal

pub returns : goal.returns
returns c = one_answer IsSound Step excess begin finish IsBook book_lines reads
