use Rattle.std.proofs.Common.{◌≡◌, Err, ap, subst}
use Rattle.std.proofs.lemmas.Result.{err_from_is_err_and}
use Rattle.bid_book.specs.declared.read.Stage.{Stage}
use Rattle.line_format.specs.declared.stop.LineStop.TheVariants.{Form}
use Rattle.bid_book.specs.Stages.{Step}
use Rattle.bid_book.proofs.read.take_line.Goals as goal

pub returns-in_err-take_supply-in-Headed-clause-form : goal.returns-in_err-take_supply-in-Headed-clause-form
returns-in_err-take_supply-in-Headed-clause-form c = λ err t step.
    let p = err_from_is_err_and c.from_residual.result c.from_residual.ensures.1 in
    let form : c.in_err-take_supply-in-Headed.field-0.0 ≡ Form = cc (p.1, p.2, err) in
    c.in_err-take_supply-in-Headed.ensures.form (ap Err form) t (subst (λ (s : Stage). Step s c.args.line.now t) c.in-Headed.is step)

pub returns-in_err-book-in-Supplied-clause-form : goal.returns-in_err-book-in-Supplied-clause-form
returns-in_err-book-in-Supplied-clause-form c = λ err t step.
    let p = err_from_is_err_and c.from_residual-in_err-book-in-Supplied.result c.from_residual-in_err-book-in-Supplied.ensures.1 in
    let form : c.in_err-book-in-Supplied.field-0.0 ≡ Form = cc (p.1, p.2, err) in
    c.in_err-book-in-Supplied.ensures.form (ap Err form) t (subst (λ (s : Stage). Step s c.args.line.now t) c.in-Supplied.is step)

pub returns-in-Listing-clause-form : goal.returns-in-Listing-clause-form
returns-in-Listing-clause-form c = λ err t step.
    c.take_listed.ensures.form err t (subst (λ (s : Stage). Step s c.args.line.now t) c.in-Listing.is step)
