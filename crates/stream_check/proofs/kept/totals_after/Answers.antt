use Rattle.stream_check.proofs.RowCome.{totals-next, rows-named}
use Rattle.stream_check.proofs.kept.totals_after.Goals as goal

pub returns-in_default : goal.returns-in_default
returns-in_default c = λ cert next is follows. totals-next c.args.at.now.book.now cert c.args.at.now.due next c.args.at.now.totals.now
    c.in_default.not-Multipliers (λ r due. rows-named c.args.at.now cert is r due) is.kept.few follows is.known.in_totals
