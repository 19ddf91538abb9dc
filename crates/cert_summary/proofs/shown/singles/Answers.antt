use Rattle.cert_summary.proofs.PartLaws.{is-part}
use Rattle.cert_summary.proofs.shown.singles.Goals as goal

pub single-requires-clause-part : goal.single-requires-clause-part
single-requires-clause-part c = is-part c.args.book.now c.args.cert.now c.items-part-items.result.now c.items-part-items.ensures c.requires
    c.loop-part.part-index c.part-item.result c.loop-part-test.true c.part-item.is
