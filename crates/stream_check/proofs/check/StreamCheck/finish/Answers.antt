use Rattle.std.proofs.Common.{subst}
use Rattle.auction_model.specs.Prices.{weight_of}
use Rattle.cert_check.specs.Verdicts.{IsVerdict}
use Rattle.stream_check.specs.Standing.{StandsWith}
use Rattle.stream_check.proofs.CheckLaws.{to-reader, says-stop, reads-book}
use Rattle.stream_check.proofs.StandLaws.{at-end}
use Rattle.stream_check.proofs.check.StreamCheck.finish.Goals as goal

pub returns-in-Err-clause-stops : goal.returns-in-Err-clause-stops
returns-in-Err-clause-stops c = λ text (set, (items, is)).
    let k = c.args.self.now in
    says-stop c.args.self.now set text c.in-Err.stop (c.in-Err.ensures.stops c.args.room.now text (to-reader c.args.self.now c.args.room.now text items is))

pub returns-in-Ok-clause-verdict : goal.returns-in-Ok-clause-verdict
returns-in-Ok-clause-verdict c = λ text (set, (items, is)).
    let k = c.args.self.now in
    let now = subst (StandsWith c.args.self.now c.args.room.now text items) c.in-Ok.ensures.done.0 is in
    let d = at-end k.book.now (weight_of k.weights.now) k.reader.due k.reader.part k.reader.place k.reader.read c.args.room.now text items k.failed k.late
    k.members k.grows k.totals c.in-Ok.ensures.done.1 (reads-book c.args.self.now set c.args.room.now text items now.0) now.1 in
    let v = c.verdict_of.ensures k.book.now (weight_of k.weights.now) d.cert d.judged in (
      d.cert,
      d.says,
      v,
      λ yes. c.sound_yes.ensures k.book.now k.weights.now d.cert set.weights d.kept.choice.0 d.kept.pay.0
          (subst (IsVerdict k.book.now (weight_of k.weights.now) d.cert) yes v),
    )
