-- The book by the laws on its bids.
use Rattle.award_file.proofs.AwardBooks.{is_limited, book-within}
use Rattle.award_file.proofs.laws.book_of_award.Goals as goal

pub returns : goal.returns
returns c = λ terms log award same. book-within terms log award (record {
  comes = c.package_tests.ensures.before;
  lawful = λ j. c.lawful_bids.ensures terms log j (is_limited terms award) same;
  order = λ j. c.book_in_order.ensures terms log j;
  some = λ j. c.bids_of_book.ensures.some terms log j;
  few = λ j. c.bids_of_book.ensures.few terms log j;
})
