use Rattle.std.proofs.Common.{◌≡◌, ◌∙◌, Err, ap, sym, length, subst}
use Rattle.std.specs.List.{AllByRecursion}
use Rattle.line_format.specs.LineText.{FaultAt}
use Rattle.line_format.specs.declared.stop.TextStop.TheVariants.{Limit}
use Rattle.line_format.proofs.Runs.{excess_read, fault_read, text_read}
use Rattle.review.specs.Edits.{edit_lots}
use Rattle.review.specs.declared.edit.Edit.{Edit}
use Rattle.edits_file.specs.EditsForm.{AreNamedEdits, lines}
use Rattle.edits_file.proofs.Reading.{reads, counts_of, named_end, named_halts, named_exceeds}
use Rattle.edits_file.proofs.read.read_edits.Goals as goal

pub returns-in-Ok-clause-text : goal.returns-in-Ok-clause-text
returns-in-Ok-clause-text c =
    let book = c.args.book.now in
    let end = named_end book c.args.bytes.now c.in-Ok.edits c.in-Ok.ensures.text in
    (end.0, text_read (reads (length book.supply)) c.args.bytes.now end.0 end.1, end.2)

pub returns-in-Ok-clause-categories : goal.returns-in-Ok-clause-categories
returns-in-Ok-clause-categories c =
    let book = c.args.book.now in
    let end = named_end book c.args.bytes.now c.in-Ok.edits c.in-Ok.ensures.text in
    let text = text_read (reads (length book.supply)) c.args.bytes.now end.0 end.1 in
    subst (AllByRecursion (λ (e : Edit). length (edit_lots e) ≡ length book.supply)) (sym end.2) (counts_of book end.0 text.valid)

pub returns-in-Err-Form-clause-form : goal.returns-in-Err-Form-clause-form
returns-in-Err-Form-clause-form c = λ place err.
    let n = length c.args.book.now.supply in
    let same : c.in-Err-Form.place ≡ place = cc (err) in
    let halts = c.in-Err-Form.ensures.form c.in-Err-Form.place (ap Err c.in-Err-Form.field-0-is) in
    subst (FaultAt (AreNamedEdits n) lines c.args.bytes.now) same
    (fault_read (reads n) c.args.bytes.now c.in-Err-Form.place (named_halts c.args.book.now c.args.bytes.now c.in-Err-Form.place halts))

pub returns-in-Err-Limit-clause-limit : goal.returns-in-Err-Limit-clause-limit
returns-in-Err-Limit-clause-limit c = λ kind count err.
    let kinds : c.in-Err-Limit.kind ≡ kind = cc (err) in
    let counts : c.in-Err-Limit.count ≡ count = cc (err) in
    let over = c.in-Err-Limit.ensures.limit (kind, count) (ap Err (c.in-Err-Limit.field-0-is ∙ (λ i. Limit (kinds i, counts i)))) in
    excess_read (reads (length c.args.book.now.supply)) c.args.bytes.now (kind, count) (named_exceeds c.args.book.now c.args.bytes.now (kind, count) over)
