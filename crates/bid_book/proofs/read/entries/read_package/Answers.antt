use Rattle.bid_book.proofs.EntryLaws.{not_above}
use Rattle.bid_book.proofs.read.entries.read_package.Goals as goal

pub returns-in_default-clause-form : goal.returns-in_default-clause-form
returns-in_default-clause-form c = λ _ same within.
    let above = c.in_default.ensures.above in
    not_above c.args.numbers.now c.args.supply.now same within c.categories.ensures.kept.lots above.0 above.1 above.2
