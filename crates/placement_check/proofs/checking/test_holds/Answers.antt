use Rattle.std.proofs.Common.{arith}
use Rattle.placement_cert.specs.CertValues.{place_cert_value}
use Rattle.placement_check.proofs.Small.{small-products, can-lower}
use Rattle.placement_check.proofs.VerdictLaws.{held-P1, held-P2, held-P3, held-P5}
use Rattle.placement_check.proofs.checking.test_holds.Goals as goal

pub payment_holds-requires-clause-small : goal.payment_holds-requires-clause-small
payment_holds-requires-clause-small c =
    let slots = c.args.slots.now in
    let p = place_cert_value c.args.cert.now in
    small-products slots p c.requires.shape (held-P1 slots p c.args.test c.requires.before (omega arith))
    (held-P2 slots p c.args.test c.requires.before (omega arith))

pub lowered_holds-requires-clause-lower : goal.lowered_holds-requires-clause-lower
lowered_holds-requires-clause-lower c =
    let slots = c.args.slots.now in
    let p = place_cert_value c.args.cert.now in
    can-lower slots p c.requires.shape (held-P1 slots p c.args.test c.requires.before (omega arith))
    (held-P2 slots p c.args.test c.requires.before (omega arith))
    (held-P3 slots p c.args.test c.requires.before (omega arith)) (held-P5 slots p c.args.test c.requires.before (omega arith))
