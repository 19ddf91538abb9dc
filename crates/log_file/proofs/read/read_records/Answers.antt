use Rattle.std.proofs.Common.{List, length, length-append, ◌≡◌, ◌<◌, [], ◌∷◌, ap, subst, arith}
use Rattle.std.proofs.lemmas.Result.{err_from_is_err_and}
use Rattle.csv.specs.Records.{fields_of}
use Rattle.auction_rules.specs.declared.Event.{Event}
use Rattle.log_file.specs.Statements.{IsUntaken}
use Rattle.log_file.proofs.LogLaws.{fault_stop, memory_stop}
use Rattle.log_file.proofs.ReadSoFar.{Left, next-is, read-all, read-more, read-none}
use Rattle.log_file.proofs.read.read_records.Goals as goal

pub loop-row-init : goal.loop-row-init
loop-row-init c = (omega (arith, ap length c.requires), λ rows left. read-none c.args.award.now rows _ _ c.requires left)

pub returns-in_err-take_record-clause-err : goal.returns-in_err-take_record-clause-err
returns-in_err-take_record-clause-err c =
    let inv = c.loop-row.invariant in
    let p = err_from_is_err_and c.from_residual.result c.from_residual.ensures.1 in
    memory_stop (Left c.args.reader.now) c.args.award.now c.from_residual.result p.0 p.1
    (λ rows left. let had = inv.1 rows left in cc (p.2, c.in_err-take_record.ensures.err had.left had.has))

pub returns-in_err-event-clause-err : goal.returns-in_err-event-clause-err
returns-in_err-event-clause-err c =
    let inv = c.loop-row.invariant in
    let fields = fields_of c.take_record.new.row in
    let fault = c.in_err-event.field-0.0 in
    let p = err_from_is_err_and c.from_residual-in_err-event.result c.from_residual-in_err-event.ensures.1 in
    fault_stop (Left c.args.reader.now) c.args.award.now c.loop-row.events fields fault c.from_residual-in_err-event.result p.0 p.1 p.2
    (subst (λ (es : List Event). IsUntaken c.args.award.now fields (length es) fault) c.items.ensures c.in_err-event.ensures.err)
    (λ rows left.
    next-is c.args.award.now rows c.loop-row.reader c.take_record.new.reader c.loop-row.events c.in_ok-take_record.field-0 fields
    c.in_ok-take_record.ensures.ok (inv.1 rows left) c.if-branch.true)

pub loop-row-preserved : goal.loop-row-preserved
loop-row-preserved c =
    let inv = c.loop-row.invariant in
    let fields = fields_of c.take_record.new.row in
    let items : c.items.result.now ≡ c.loop-row.events = c.items.ensures in
    let stated = c.in_ok-event.ensures.ok in
    let few : length c.loop-row.events < 100000 = omega (arith, ap length items, stated.0) in
    let pushed = c.in_ok-push.ensures.pushed in (
      omega (arith, few, ap length pushed, length-append c.loop-row.events (c.in_ok-event.event ∷ [])),
      λ rows left. read-more c.args.award.now rows c.loop-row.reader c.take_record.new.reader c.loop-row.events c.in_ok-take_record.field-0 fields
          c.in_ok-take_record.ensures.ok (inv.1 rows left) c.push.new.self c.in_ok-event.event c.if-branch.true few stated.1 pushed,
    )

pub returns-clause-ok : goal.returns-clause-ok
returns-clause-ok c = λ rows left.
    read-all c.args.award.now rows c.loop-row.reader c.take_record.new.reader c.loop-row.events c.in_ok-take_record.field-0 (fields_of c.take_record.new.row)
    c.in_ok-take_record.ensures.ok (c.loop-row.invariant.1 rows left) c.if-branch.false
