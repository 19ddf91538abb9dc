-- What bytes that state a book say of it.
use Rattle.std.proofs.Common.{◌≡◌, ℕ, List, subst}
use Rattle.line_format.specs.LineText.{Said, Says, beyond, faulty, stated}
use Rattle.auction_model.specs.Book.{Book}
use Rattle.book_grammar.specs.BookForm.{IsBook}
use Rattle.book_grammar.specs.BookLines.{Excess, IsBookWithinLimits, book_lines}
use Rattle.cca_cli.specs.Answers.{BookAnswers, book_answer}
use Rattle.cca_cli.specs.Outcome.{value}

-- a book that bytes state is within the limits
pub limits-of : (bytes : List ℕ) (book : Book) → BookAnswers bytes (value book) → IsBookWithinLimits book
limits-of bytes book (said, says, is) = by said says is
  where
    by : (said : Said Book Excess) → Says IsBook book_lines bytes said → value book ≡ book_answer said → IsBookWithinLimits book
    by (stated b) says is = let same : b ≡ book = cc in subst IsBookWithinLimits same (record { form = says.valid; limits = says.within })
    by (faulty at) says is = absurd cc
    by (beyond e) says is = absurd cc
