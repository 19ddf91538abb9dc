use Rattle.std.proofs.Common.{arith, rules}
use Rattle.log_file.proofs.WideLaws.{cut-found, scan-more, scan-start}
use Rattle.log_file.proofs.wide.wide_end.Goals as goal

pub loop-at-init : goal.loop-at-init
loop-at-init c = (omega arith, omega arith, scan-start)

pub returns-then-ended-eq-FIELDS-clause-alike : goal.returns-then-ended-eq-FIELDS-clause-alike
returns-then-ended-eq-FIELDS-clause-alike c =
    cut-found c.args.text.now _ c.ended_after-ended.result c.effect_at-effect.result.place
    (scan-more c.args.text.now c.loop-at.at c.loop-at.place _ c.effect_at-effect.result.ended c.loop-at.ended _ c.loop-at-test.true c.loop-at.invariant.2
    c.effect_at-effect.ensures c.ended_after-ended.ensures) c.if-ended-eq-FIELDS.true

pub loop-at-preserved : goal.loop-at-preserved
loop-at-preserved c = (
  omega (arith, c.loop-at-test.true),
  search rules,
  scan-more c.args.text.now c.loop-at.at c.loop-at.place _ c.effect_at-effect.result.ended c.loop-at.ended _ c.loop-at-test.true c.loop-at.invariant.2
      c.effect_at-effect.ensures c.ended_after-ended.ensures,
)
