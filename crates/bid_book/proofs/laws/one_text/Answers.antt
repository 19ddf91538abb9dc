use Rattle.std.proofs.Common.{sym, ◌∙◌}
use Rattle.line_format.specs.LineText.{stated}
use Rattle.line_format.proofs.OneAnswer.{one_answer}
use Rattle.book_grammar.specs.BookForm.{IsBook}
use Rattle.book_grammar.specs.BookLines.{book_lines}
use Rattle.bid_book.specs.Stages.{Step, excess}
use Rattle.bid_book.proofs.Reading.{IsSound, begin, finish, reads}
use Rattle.bid_book.proofs.laws.one_text.Goals as goal

pub returns-clause-text : goal.returns-clause-text
returns-clause-text c = λ bytes other book a b. a.spelled ∙ sym b.spelled

pub returns-clause-book : goal.returns-clause-book
returns-clause-book c = λ bytes book other a b.
    let e = one_answer IsSound Step excess begin finish IsBook book_lines reads bytes (stated book) (stated other) a b in cc
