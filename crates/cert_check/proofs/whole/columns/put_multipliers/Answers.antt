use Rattle.std.proofs.Common.{ℕ, map, sym, ◌∙◌, ap, arith, rules}
use Rattle.std.proofs.lemmas.Int.{to_z-of_z}
use Rattle.std.proofs.lemmas.List.{length-map}
use mir.Val.{SFits}
use mir.Syntax.{w128}
use Rattle.cert_grammar.specs.Certificate.{row_of}
use Rattle.cert_text.specs.Parts.{row_value}
use Rattle.cert_check.specs.Multipliers.{multiplier_of}
use Rattle.cert_check.proofs.SumLaws.{row-at}
use Rattle.cert_check.proofs.Written.{written-more, written-all}
use Rattle.cert_check.proofs.whole.columns.put_multipliers.Goals as goal

pub loop-r-preserved : goal.loop-r-preserved
loop-r-preserved c =
    let picked_fits : SFits w128 c.picked.result = search rules in
    let here = row-at c.args.rows.now c.loop-r.r c.index-rows-r.result c.loop-r-test.true c.index-rows-r.is in
    written-more (λ (r : ℕ). multiplier_of c.args.which (row_of (map row_value c.args.rows.now) r)) c.loop-r.numbers c.loop-r.r _
    (omega arith) c.loop-r.invariant
    (to_z-of_z w128 c.picked.result picked_fits ∙ c.picked.ensures ∙ ap (multiplier_of c.args.which) (sym here))

pub returns : goal.returns
returns c = record {
  count = omega (arith, length-map c.args.rows.now row_value);
  each = λ r some le. written-all (λ (r : ℕ). multiplier_of c.args.which (row_of (map row_value c.args.rows.now) r)) c.loop-r.numbers c.loop-r.r r
      (omega (arith, le, length-map c.args.rows.now row_value)) c.loop-r.invariant r some (omega arith);
}
