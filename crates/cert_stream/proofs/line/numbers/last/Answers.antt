use Rattle.std.proofs.Common.{◌-◌, get_or, pos, sym, subst, ◌∙◌, arith, rules, FitsSigned, ℤ}
use Rattle.std.specs.Prelude.{◌≤ℤ◌}
use Rattle.std.specs.Int.{w128}
use Rattle.std.proofs.lemmas.Int.{to_z-of_z}
use Rattle.cert_stream.proofs.Following.{last_kept}
use Rattle.cert_stream.proofs.line.numbers.last.Goals as goal

pub returns-clause-last : goal.returns-clause-last
returns-clause-last c = λ ns bidders keeps rise.
    let l = last_kept bidders ns c.args.out.now c.args.count keeps rise (omega arith) in
    let f : FitsSigned w128 c.not_below_zero.result = search rules in
    let g : FitsSigned w128 (get_or c.args.out.now (c.args.count - 1) (pos 0)) = search rules in
    let same = simp to_z-of_z at c.not_below_zero.ensures.same in
    simp to_z-of_z (same (subst (λ (z : ℤ). pos 0 ≤ℤ z) (sym l.0) l.1) ∙ l.0)
