use Rattle.std.proofs.Common.{◌≡◌, ◌∙◌, Err, ap, subst}
use Rattle.line_format.specs.LineText.{FaultAt}
use Rattle.line_format.specs.declared.stop.TextStop.TheVariants as text_stop
use Rattle.line_format.proofs.Runs.{excess_read, fault_read, text_read}
use Rattle.book_grammar.specs.BookForm.{IsBook}
use Rattle.book_grammar.specs.BookLines.{book_lines}
use Rattle.bid_book.proofs.Reading.{reads}
use Rattle.bid_book.proofs.read.read_book.Goals as goal

pub returns-in-Ok-clause-text : goal.returns-in-Ok-clause-text
returns-in-Ok-clause-text c = text_read reads c.args.bytes.now c.in-Ok.book c.in-Ok.ensures.text

pub returns-in-Err-Form-clause-form : goal.returns-in-Err-Form-clause-form
returns-in-Err-Form-clause-form c = λ place err.
    let same : c.in-Err-Form.place ≡ place = cc (err) in
    subst (FaultAt IsBook book_lines c.args.bytes.now) same (fault_read reads c.args.bytes.now c.in-Err-Form.place
    (c.in-Err-Form.ensures.form c.in-Err-Form.place (ap Err c.in-Err-Form.field-0-is)))

pub returns-in-Err-Limit-clause-limit : goal.returns-in-Err-Limit-clause-limit
returns-in-Err-Limit-clause-limit c = λ kind count err.
    let kinds : c.in-Err-Limit.kind ≡ kind = cc (err) in
    let counts : c.in-Err-Limit.count ≡ count = cc (err) in
    excess_read reads c.args.bytes.now (kind, count) (c.in-Err-Limit.ensures.limit (kind, count)
    (ap Err (c.in-Err-Limit.field-0-is ∙ (λ i. text_stop.Limit (kinds i, counts i)))))
