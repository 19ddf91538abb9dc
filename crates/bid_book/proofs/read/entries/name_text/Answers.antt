use Rattle.bid_book.proofs.EntryLaws.{name_utf8, ok_some}
use Rattle.bid_book.proofs.read.entries.name_text.Goals as goal

pub returns-clause-none : goal.returns-clause-none
returns-clause-none c =
    let utf8 = name_utf8 c.args.name.now (c.is_name.ensures.0 c.if-not-is_name.false) in
    ok_some c.from_utf8.result c.ok.result _ _ _ c.ok.ensures.value c.from_utf8.ensures.cases (λ e not. not.0 utf8)
