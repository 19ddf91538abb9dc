use Rattle.cca_run.proofs.Put.{first-fails, second-fails}
use Rattle.cca_run.proofs.print.print.Goals as goal
use Rattle.cca_run.proofs.print.print.Goals.{else-put_all-via-then-put_all+else-put_all-2, else-put_all-via-else-put_all}

pub returns-else-put_all-clause-printed : goal.returns-else-put_all-clause-printed
returns-else-put_all-clause-printed g c =
    let old = g.O.Sink.output c.args.out.now in
    let mid = g.O.Sink.output c.put_all.new.out in
    elim c.else-put_all.branch [
      | else-put_all-via-then-put_all+else-put_all-2 w ↦ rw w.out-is (second-fails old mid (g.O.Sink.output w.put_all-then-put_all.new.out) c.args.before.now
          c.args.text.now c.args.status c.put_all.result w.put_all-then-put_all.result
          c.put_all.ensures.count w.if-put_all.true w.if-put_all-2.false c.put_all.ensures.written w.put_all-then-put_all.ensures.written)
      | else-put_all-via-else-put_all w ↦ rw w.out-is (first-fails old mid c.args.before.now c.args.text.now c.args.status c.put_all.result w.if-put_all.false
          c.put_all.ensures.written)
    ]
