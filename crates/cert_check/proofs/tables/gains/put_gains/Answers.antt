use Rattle.std.proofs.Common.{◌≡◌, ◌<◌, ◌≤◌, ℕ, arith, rules}
use Rattle.std.proofs.lemmas.Int.{to_z-of_z}
use Rattle.auction_model.specs.Lowered.{of_bidder}
use Rattle.cert_soundness.specs.Tests.{bidders_of}
use Rattle.cert_check.specs.Gains.{gain_of}
use Rattle.cert_check.proofs.LoweredLaws.{can-lower}
use Rattle.cert_check.proofs.Worths.{lowered-small}
use mir.Val.{SFits}
use mir.Syntax.{w128}
use Rattle.cert_check.proofs.tables.gains.put_gains.Goals as goal

pub put_each-requires-clause-lower : goal.put_each-requires-clause-lower
put_each-requires-clause-lower c =
    let den_fits : SFits w128 c.args.claim.now.den = search rules in
    rw (to_z-of_z w128 c.args.claim.now.den den_fits) (can-lower c.args.claim.now c.args.pay.now c.kept.ensures c.requires.pay.0 c.requires.pay.1)

pub returns-clause-gains : goal.returns-clause-gains
returns-clause-gains c =
    let den_fits : SFits w128 c.args.claim.now.den = search rules in
    rw (to_z-of_z w128 c.args.claim.now.den den_fits) at c.put_each.ensures.gains

pub returns-clause-small : goal.returns-clause-small
returns-clause-small c =
    let den_fits : SFits w128 c.args.claim.now.den = search rules in
    let gains : (j : ℕ) → 0 < j → j ≤ bidders_of c.args.claim.now.book.now → of_bidder c.put_each.new.gains j ≡ gain_of c.args.claim.now.book.now
    c.args.claim.now.den c.args.claim.now.choice.now c.args.pay.now j =
    rw (to_z-of_z w128 c.args.claim.now.den den_fits) at c.put_each.ensures.gains in
    lowered-small c.args.claim.now.book.now c.args.claim.now.den c.args.claim.now.choice.now c.args.pay.now c.put_each.new.gains
    (can-lower c.args.claim.now c.args.pay.now c.kept.ensures c.requires.pay.0 c.requires.pay.1) (omega (arith, c.requires.room, c.put_each.ensures.room)) gains
