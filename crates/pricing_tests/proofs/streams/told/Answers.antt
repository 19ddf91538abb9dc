use Rattle.std.proofs.Common.{subst}
use Rattle.auction_model.specs.Prices.{weight_of}
use Rattle.cert_check.specs.Verdicts.{IsVerdict}
use Rattle.pricing_tests.proofs.streams.told.Goals as goal

pub read_facts-requires-clause-yes : goal.read_facts-requires-clause-yes
read_facts-requires-clause-yes c =
    let (text, stands) = c.requires.stands in
    let (cert, says, verdict, sound) = c.in-Ok-Yes.ensures.verdict text stands in
    (text, stands, (cert, says, subst (IsVerdict c.args.checker.now.book.now (weight_of c.args.checker.now.weights.now) cert) c.in-Ok-Yes.field-0-is verdict))
