use Rattle.std.proofs.Common.{◌∙◌, map, arith, rules}
use Rattle.std.proofs.lemmas.Int.{to_z-of_z}
use mir.Val.{SFits}
use mir.Syntax.{w128}
use Rattle.cert_soundness.specs.Tests.{bidders_of}
use Rattle.cert_text.specs.Parts.{without_value}
use Rattle.cert_check.specs.Fields.{worth_without}
use Rattle.cert_check.proofs.Written.{written-more, written-all}
use Rattle.cert_check.proofs.whole.parts.put_values.Goals as goal

pub loop-k-preserved : goal.loop-k-preserved
loop-k-preserved c =
    let a = c.args.claim.now in
    let value_fits : SFits w128 c.part_value.result = search rules in
    written-more (worth_without a.book.now a.choice.now (map without_value c.args.parts.now)) c.loop-k.values c.loop-k.k _ (omega arith) c.loop-k.invariant
    (to_z-of_z w128 c.part_value.result value_fits ∙ c.part_value.ensures)

pub returns-clause-values : goal.returns-clause-values
returns-clause-values c =
    let a = c.args.claim.now in
    written-all (worth_without a.book.now a.choice.now (map without_value c.args.parts.now)) c.loop-k.values c.loop-k.k (bidders_of a.book.now)
    (omega arith) c.loop-k.invariant
