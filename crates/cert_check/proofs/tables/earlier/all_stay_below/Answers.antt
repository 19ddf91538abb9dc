use Rattle.std.proofs.Common.{arith, refl, rules}
use Rattle.std.proofs.lemmas.Int.{to_z-of_z}
use Rattle.cert_check.proofs.EarlierLaws.{all-below}
use mir.Val.{SFits}
use mir.Syntax.{w128}
use Rattle.cert_check.proofs.tables.earlier.all_stay_below.Goals as goal

pub returns : goal.returns
returns c =
    let bound_fits : SFits w128 c.args.bound = search rules in
    let all = rw (to_z-of_z w128 c.args.bound bound_fits) at c.loop-i.invariant in (
      λ _. all-below c.args.book.now c.args.choice.now c.args.j c.args.line.now c.args.rest c.args.bound c.bids_before-i-end.result
          c.bids_before-i-end.ensures.before (λ h few. all h (omega (arith, few, c.loop-i-test.false))),
      λ _. refl,
    )
