use Rattle.std.proofs.Common.{◌≡◌, ◌+◌, true, false, arith, rules}
use Rattle.std.proofs.lemmas.Int.{to_z-of_z}
use Rattle.cert_check.specs.EarlierBids.{NoneEarlier}
use Rattle.cert_check.specs.Fields.{cert_headed}
use Rattle.cert_check.proofs.EarlierLaws.{none-outside}
use Rattle.cert_check.proofs.PlaceTests.{before-next, fails-here, holds-everywhere}
use mir.Val.{SFits}
use mir.Syntax.{w128}
use Rattle.cert_check.proofs.whole.earlier.earlier_fault.Goals as goal

pub loop-k-init : goal.loop-k-init
loop-k-init c =
    let value_fits : SFits w128 c.args.value = search rules in
    rw (to_z-of_z w128 c.args.value value_fits) (λ place low. none-outside c.args.book.now (cert_headed c.args.value c.args.choice.now c.args.table.now) place
    (λ some le. omega (arith, low, some)))

pub loop-k-preserved : goal.loop-k-preserved
loop-k-preserved c =
    let value_fits : SFits w128 c.args.value = search rules in
    let passed : c.none_earlier_in.result ≡ true = search rules in
    rw (to_z-of_z w128 c.args.value value_fits) (before-next (NoneEarlier c.args.book.now (cert_headed c.args.value c.args.choice.now c.args.table.now))
    (c.loop-k.k + 1) c.none_earlier_in.result (rw (to_z-of_z w128 c.args.value value_fits) at c.loop-k.invariant)
    (rw (to_z-of_z w128 c.args.value value_fits) at c.none_earlier_in.ensures) passed)

pub returns-then-not-none_earlier_in : goal.returns-then-not-none_earlier_in
returns-then-not-none_earlier_in c =
    let value_fits : SFits w128 c.args.value = search rules in
    let failed : c.none_earlier_in.result ≡ false = search rules in
    fails-here (NoneEarlier c.args.book.now (cert_headed c.args.value c.args.choice.now c.args.table.now)) (c.loop-k.k + 1) c.none_earlier_in.result
    (rw (to_z-of_z w128 c.args.value value_fits) at c.loop-k.invariant) (rw (to_z-of_z w128 c.args.value value_fits) at c.none_earlier_in.ensures) failed

pub returns : goal.returns
returns c =
    let value_fits : SFits w128 c.args.value = search rules in
    holds-everywhere (NoneEarlier c.args.book.now (cert_headed c.args.value c.args.choice.now c.args.table.now)) (c.loop-k.k + 1)
    (rw (to_z-of_z w128 c.args.value value_fits) at c.loop-k.invariant)
    (λ place past. none-outside c.args.book.now (cert_headed c.args.value c.args.choice.now c.args.table.now) place
    (λ some le. omega (arith, past, le, c.loop-k-test.false, c.bidders-k-end.ensures.bidders)))
