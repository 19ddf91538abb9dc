use Rattle.std.proofs.Common.{◌≡◌, ◌+◌, List, sym, subst, ◌∙◌, rules, arith}
use Rattle.std.specs.Prelude.{ℤ}
use Rattle.cert_text.proofs.TableSteps.{TableSoFar, table_start, table_more, table_halts, table_done, lines_width}
use Rattle.cert_text.proofs.read.tables.take_table.Goals as goal

pub loop-count-init : goal.loop-count-init
loop-count-init c =
    subst (λ (table : List (List ℤ)). TableSoFar c.args.bytes.now c.args.place c.args.shape.bidders c.args.shape.states 0 c.args.place table)
    (sym c.new-table.ensures)
    (table_start c.args.bytes.now c.args.place c.args.shape.bidders c.args.shape.states c.requires)

pub take_signed-requires : goal.take_signed-requires
take_signed-requires c = c.loop-count.invariant.within

pub returns-in_err-line-clause-halts : goal.returns-in_err-line-clause-halts
returns-in_err-line-clause-halts c =
    let halts = table_halts c.args.bytes.now c.args.place c.args.shape.bidders c.args.shape.states c.loop-count._count c.loop-count.next c.loop-count.table
    c.in_err-line.field-0.0
    c.loop-count-test.true c.loop-count.invariant c.in_err-line.ensures.halts in
    search rules

pub push_line-requires : goal.push_line-requires
push_line-requires c = λ some. c.in_ok-line.ensures.count ∙ sym (lines_width c.args.shape.states c.loop-count.table c.loop-count.invariant.lines some)

pub loop-count-preserved : goal.loop-count-preserved
loop-count-preserved c =
    subst (λ (table : List (List ℤ)). TableSoFar c.args.bytes.now c.args.place c.args.shape.bidders c.args.shape.states
    (c.loop-count._count + 1) c.in_ok-line.line.next table) (sym c.in_ok-push_line.ensures.pushed)
    (table_more c.args.bytes.now c.args.place c.args.shape.bidders c.args.shape.states c.loop-count._count c.loop-count.next c.loop-count.table
    c.in_ok-line.line.next c.in_ok-line.line.numbers
    c.loop-count-test.true c.loop-count.invariant c.in_ok-line.ensures.leads c.in_ok-line.ensures.count c.in_ok-line.ensures.range c.in_ok-line.ensures.within)

pub returns-clause-leads : goal.returns-clause-leads
returns-clause-leads c =
    let end : c.loop-count._count ≡ c.args.shape.bidders + 1 = omega (arith, c.loop-count-test.false, c.loop-count.auto._count-end) in
    (table_done c.args.bytes.now c.args.place c.args.shape.bidders c.args.shape.states c.loop-count._count c.loop-count.next c.loop-count.table end
    c.loop-count.invariant).0

pub returns-clause-table : goal.returns-clause-table
returns-clause-table c =
    let end : c.loop-count._count ≡ c.args.shape.bidders + 1 = omega (arith, c.loop-count-test.false, c.loop-count.auto._count-end) in
    (table_done c.args.bytes.now c.args.place c.args.shape.bidders c.args.shape.states c.loop-count._count c.loop-count.next c.loop-count.table end
    c.loop-count.invariant).1
