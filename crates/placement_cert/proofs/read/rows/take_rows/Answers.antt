use Rattle.std.proofs.Common.{◌≡◌, ◌+◌, List, sym, subst, arith, rules}
use Rattle.placement_cert.specs.declared.certificate.PlaceRow.{PlaceRow}
use Rattle.placement_cert.proofs.RowSteps.{RowsSoFar, rows_more, rows_halts, rows_done}
use Rattle.placement_cert.proofs.read.rows.take_rows.Goals as goal

pub returns-in_err-read-clause-halts : goal.returns-in_err-read-clause-halts
returns-in_err-read-clause-halts c =
    let halts = rows_halts c.args.bytes.now c.args.place c.args.bidders c.args.count c.loop-row._row c.loop-row.next c.loop-row.rows c.in_err-read.field-0.0
    c.loop-row-test.true c.loop-row.invariant c.in_err-read.ensures.halts in
    search rules

pub loop-row-preserved : goal.loop-row-preserved
loop-row-preserved c =
    subst (λ (rows : List PlaceRow). RowsSoFar c.args.bytes.now c.args.place c.args.bidders c.args.count (c.loop-row._row + 1) c.in_ok-read.read.next rows)
    (sym c.in_ok-push.ensures.pushed)
    (rows_more c.args.bytes.now c.args.place c.args.bidders c.args.count c.loop-row._row c.loop-row.next c.loop-row.rows c.in_ok-read.read.row
    c.in_ok-read.read.next
    c.loop-row-test.true c.loop-row.invariant c.in_ok-read.ensures.leads c.in_ok-read.ensures.row c.in_ok-read.ensures.order c.in_ok-read.ensures.within)

pub returns-clause-leads : goal.returns-clause-leads
returns-clause-leads c =
    let end : c.loop-row._row ≡ c.args.count = omega (arith, c.loop-row-test.false, c.loop-row.auto._row-end) in
    (rows_done c.args.bytes.now c.args.place c.args.bidders c.args.count c.loop-row._row c.loop-row.next c.loop-row.rows end c.loop-row.invariant).0
