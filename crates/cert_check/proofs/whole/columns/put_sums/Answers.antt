use Rattle.std.proofs.Common.{ℕ, length, map, sym, ◌∙◌, ap, arith, rules}
use Rattle.std.proofs.lemmas.Int.{to_z-of_z}
use Rattle.std.proofs.lemmas.List.{length-map}
use mir.Val.{SFits}
use mir.Syntax.{w128}
use Rattle.cert_soundness.specs.Tests.{sum_holding}
use Rattle.cert_text.specs.Parts.{row_value}
use Rattle.cert_check.specs.Multipliers.{multiplier_of}
use Rattle.cert_check.proofs.Written.{written-more, written-all}
use Rattle.cert_check.proofs.whole.columns.put_sums.Goals as goal

pub loop-k-preserved : goal.loop-k-preserved
loop-k-preserved c =
    let sum_fits : SFits w128 c.sum_of.result = search rules in
    written-more (λ (j : ℕ). sum_holding (map row_value c.args.rows.now) j (multiplier_of c.args.which) (length c.args.rows.now)) c.loop-k.sums c.loop-k.k _
    (omega arith) c.loop-k.invariant
    (to_z-of_z w128 c.sum_of.result sum_fits ∙ c.sum_of.ensures)

pub returns-clause-sums : goal.returns-clause-sums
returns-clause-sums c = λ j some inside.
    written-all (λ (j : ℕ). sum_holding (map row_value c.args.rows.now) j (multiplier_of c.args.which) (length c.args.rows.now)) c.loop-k.sums c.loop-k.k j
    (omega (arith, inside)) c.loop-k.invariant j some (omega arith)
    ∙ ap (λ (n : ℕ). sum_holding (map row_value c.args.rows.now) j (multiplier_of c.args.which) n) (sym (length-map c.args.rows.now row_value))
