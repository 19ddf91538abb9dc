use Rattle.std.proofs.Common.{◌∙◌, ◌-◌, get_or, pos, sym, arith, rules}
use Rattle.std.proofs.lemmas.Int.{to_z-of_z}
use mir.Val.{SFits}
use mir.Syntax.{w128}
use Rattle.cert_grammar.specs.Certificate.{RowValue}
use Rattle.cert_check.proofs.PartLaws.{wins-some}
use Rattle.placement_check.proofs.RowLaws.{holding-same}
use Rattle.placement_check.proofs.claims.is_least.Goals as goal

pub returns : goal.returns
returns c =
    let first = get_or c.sums_over-sums.result.firsts (c.args.j - 1) (pos 0) in
    let sum_fits : SFits w128 first = search rules in
    let den_fits : SFits w128 c.args.cert.now.den = search rules in
    let sum = c.sums_over-sums.ensures.firsts.each c.args.j c.requires.bidder.0 (omega (arith, c.requires.bidder.1, c.kept.ensures.few))
    ∙ holding-same c.args.cert.now.rows c.items.result.now c.args.j (λ (row : RowValue). row.first) c.items.ensures in
    let test = rw (to_z-of_z w128 first sum_fits, to_z-of_z w128 c.args.cert.now.den den_fits) at c.is_equal.ensures in (
      λ t _. sym sum ∙ test.0 t,
      λ h. test.1 (sum ∙ h (wins-some c.args.cert.now.choice c.args.j c.number.result c.number.ensures c.if-number-eq0.false)),
    )
