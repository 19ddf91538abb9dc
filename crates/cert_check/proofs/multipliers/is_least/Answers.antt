use Rattle.std.proofs.Common.{sym, ◌∙◌, refl, rules}
use Rattle.std.proofs.lemmas.Int.{to_z-of_z}
use mir.Val.{SFits}
use mir.Syntax.{w128}
use Rattle.cert_check.proofs.PartLaws.{wins-some, loses-zero}
use Rattle.cert_check.proofs.multipliers.is_least.Goals as goal

pub returns-then-number-eq0 : goal.returns-then-number-eq0
returns-then-number-eq0 c = (
  λ _ wins. absurd (loses-zero c.args.claim.now.choice.now c.args.j (sym c.number.ensures ∙ c.if-number-eq0.true) wins),
  λ _. refl,
)

pub returns : goal.returns
returns c =
    let sum_fits : SFits w128 c.args.sum = search rules in
    let den_fits : SFits w128 c.args.claim.now.den = search rules in
    let test = rw (to_z-of_z w128 c.args.sum sum_fits, to_z-of_z w128 c.args.claim.now.den den_fits) at c.is_equal.ensures in (
      λ t _. test.0 t,
      λ h. test.1 (h (wins-some c.args.claim.now.choice.now c.args.j c.number.result c.number.ensures c.if-number-eq0.false)),
    )
