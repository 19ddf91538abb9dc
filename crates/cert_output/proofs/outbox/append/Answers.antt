use Rattle.std.proofs.Common.{ap, sym}
use Rattle.std.specs.Prelude.{Err}
use Rattle.std.proofs.lemmas.Bool.{true≢false}
use Rattle.cca_base.proofs.Writing.{as-fault}
use Rattle.cert_output.proofs.outbox.append.Goals as goal

pub returns-in-Ok-clause-whole : goal.returns-in-Ok-clause-whole
returns-in-Ok-clause-whole g c = record {
  adds = c.in-Ok.ensures.whole;
  quiet = c.in-Ok.ensures.quiet;
  gave = c.in-Ok.ensures.gave;
  loads = c.in-Ok.ensures.loads;
}

pub returns-in-Err-clause-part : goal.returns-in-Err-clause-part
returns-in-Err-clause-part g c =
    let e = as-fault c.in-Err.field-0 in
    let part = c.in-Err.ensures.part e.0 (ap Err e.1) in
    record {
      count = e.0;
      part = part.0;
      adds = part.1;
      counts = c.in-Err.ensures.count;
      gave = c.in-Err.ensures.gave;
      loads = c.in-Err.ensures.loads;
      cause = c.in-Err.ensures.cause;
      no_room = λ has. true≢false (sym (c.in-Err.ensures.room has));
    }
