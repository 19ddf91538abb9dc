-- Both are lemmas over the plain distance.
use Rattle.cca_run.proofs.AdmittedBids.{admitted-bids}
use Rattle.cca_run.proofs.HeadlineLaws.{audited, awarded}
use Rattle.cca_run.proofs.LogBooks.{rules-log}
use Rattle.cca_run.proofs.laws.headline.Goals as goal

pub returns-clause-audit : goal.returns-clause-audit
returns-clause-audit c =
    audited c.plain_outcome.ensures
    (admitted-bids c.bidders_of_book.ensures.count c.bidders_of_book.ensures.each c.bids_of_book.ensures.packages c.bids_of_book.ensures.amounts
    c.book_in_order.ensures)

pub returns-clause-award : goal.returns-clause-award
returns-clause-award c =
    awarded c.plain_outcome.ensures
    (admitted-bids c.bidders_of_book.ensures.count c.bidders_of_book.ensures.each c.bids_of_book.ensures.packages c.bids_of_book.ensures.amounts
    c.book_in_order.ensures)
    c.short_text.ensures (rules-log c.book_of_award.ensures c.packages_of_log.ensures)
