use Rattle.std.proofs.Common.{◌≡◌, Err, ap, length, subst}
use Rattle.line_format.specs.LineText.{FaultAt}
use Rattle.line_format.proofs.Runs.{fault_read, text_read}
use Rattle.auction_model.specs.Prices.{AreWeights}
use Rattle.weights_file.specs.Stages.{Step}
use Rattle.weights_file.specs.WeightsForm.{lines}
use Rattle.weights_file.proofs.Reading.{begin, finish, reads}
use Rattle.weights_file.proofs.Unmarked.{so_far_too, halts_too}
use Rattle.weights_file.proofs.read.read_weights.Goals as goal

pub returns-in-Ok-clause-text : goal.returns-in-Ok-clause-text
returns-in-Ok-clause-text c =
    let book = c.args.book.now in
    text_read (reads book c.kept.ensures.rules.form) c.args.bytes.now c.in-Ok.weights
    (so_far_too (Step book) begin c.args.bytes.now (length c.args.bytes.now) (finish c.in-Ok.weights) c.in-Ok.ensures.text)

pub returns-in-Err-Form-clause-form : goal.returns-in-Err-Form-clause-form
returns-in-Err-Form-clause-form c = λ place err.
    let book = c.args.book.now in
    let same : c.in-Err-Form.place ≡ place = cc (err) in
    let halts = c.in-Err-Form.ensures.form c.in-Err-Form.place (ap Err c.in-Err-Form.field-0-is) in
    subst (FaultAt (AreWeights (length book.bidders)) (lines book) c.args.bytes.now) same
    (fault_read (reads book c.kept.ensures.rules.form) c.args.bytes.now c.in-Err-Form.place
    (halts_too (Step book) begin finish c.args.bytes.now c.in-Err-Form.place halts))
