use Rattle.std.proofs.Common.{ap, sym, Err}
use Rattle.std.proofs.lemmas.Bool.{true≢false}
use Rattle.cca_base.proofs.Writing.{as-fault}
use Rattle.cca_run.proofs.print.put_all.Goals as goal

pub returns-in-Err-clause-written : goal.returns-in-Err-clause-written
returns-in-Err-clause-written g c =
    let e = as-fault c.in-Err.field-0 in
    let part = c.in-Err.ensures.part e.0 (ap Err e.1) in
    (c.in-Err.ensures.cause, (e.0, part.0, part.1), λ has. true≢false (sym (c.in-Err.ensures.room has)))
