use Rattle.std.proofs.Common.{◌≡◌, ◌∙◌, ◌+◌, ◌^◌, ◌-◌, ap, unsigned_abs, rules}
use Rattle.std.proofs.lemmas.Int.{to_z-of_z}
use Rattle.value_table.specs.Counted.{counted}
use Rattle.value_table.proofs.ShortLaws.{small-first, small-more}
use mir.Val.{SFits}
use mir.Syntax.{w128}
use Rattle.value_table.proofs.short.has_short_worths.Goals as goal

pub loop-i-init : goal.loop-i-init
loop-i-init c =
    let wide : SFits w128 c.idle.result = search rules in
    let is : c.unsigned_abs.result ≡ unsigned_abs (counted c.args.lowered.now c.args.j 0) =
    c.unsigned_abs.ensures.value ∙ ap unsigned_abs (to_z-of_z w128 c.idle.result wide ∙ c.idle.ensures.worth) in
    small-first (λ n. unsigned_abs (counted c.args.lowered.now c.args.j n)) (2 ^ 31 - 1) (rw is at c.if-unsigned_abs-gt-SHORT.false)

pub loop-i-preserved : goal.loop-i-preserved
loop-i-preserved c =
    let wide : SFits w128 c.worth.result = search rules in
    let is : c.unsigned_abs-in-loop-i.result ≡ unsigned_abs (counted c.args.lowered.now c.args.j (c.loop-i.i + 1)) =
    c.unsigned_abs-in-loop-i.ensures.value ∙ ap unsigned_abs (to_z-of_z w128 c.worth.result wide ∙ c.worth.ensures.worth) in
    small-more (λ n. unsigned_abs (counted c.args.lowered.now c.args.j n)) (2 ^ 31 - 1) c.loop-i.i c.loop-i.invariant
    (rw is at c.if-unsigned_abs-gt-SHORT-2.false)
