use Rattle.bid_book.proofs.FieldReads.{first_number, not_spaced}
use Rattle.bid_book.proofs.read.fields.long_number.Goals as goal

pub returns-in_default-clause-none : goal.returns-in_default-clause-none
returns-in_default-clause-none c = λ ns small is. not_spaced c.args.text.now ns c.requires c.in_default.ensures.none is

pub returns-in-None-clause-none : goal.returns-in-None-clause-none
returns-in-None-clause-none c = λ ns small is.
    let first = first_number c.args.text.now c.in-Some.field.now c.in-Some.more.now ns c.in-Some.ensures.found is small in
    c.in-None.ensures.none first.number first.small first.field_is
