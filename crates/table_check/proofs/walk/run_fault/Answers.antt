use Rattle.std.proofs.Common.{rules, arith, refl, ℕ, ◌-◌, get_or, pos, subst, inl, inr}
use Rattle.std.proofs.lemmas.Int.{to_z-of_z}
use Rattle.std.proofs.lemmas.Bool.{cases_lt, false≢true}
use Rattle.table_check.specs.Faults.{Covers}
use mir.Val.{SFits}
use mir.Syntax.{w128}
use Rattle.table_check.proofs.walk.run_fault.Goals as goal

pub loop-s-preserved : goal.loop-s-preserved
loop-s-preserved c = λ q lt lo hi.
    let rule = c.args.rule.now in
    let worth : SFits w128 rule.worth = search rules in
    let below : SFits w128 (get_or rule.below.now (c.loop-s.s - rule.shift) (pos 0)) = search rules in
    let line : SFits w128 (get_or rule.line.now c.loop-s.s (pos 0)) = search rules in
    let own : Covers rule c.loop-s.s = rw (
      to_z-of_z w128 rule.worth worth,
      to_z-of_z w128 (get_or rule.below.now (c.loop-s.s - rule.shift) (pos 0)) below,
      to_z-of_z w128 (get_or rule.line.now c.loop-s.s (pos 0)) line,
    ) at (c.if-not-covers.ensures.0 refl) in
    elim (cases_lt q c.loop-s.s) [
      | inl earlier ↦ c.loop-s.invariant q earlier lo hi
      | inr here ↦ subst (λ (n : ℕ). Covers rule n) (omega (arith, lt, here)) own
    ]

pub returns-then-not-covers : goal.returns-then-not-covers
returns-then-not-covers c =
    let rule = c.args.rule.now in
    let worth : SFits w128 rule.worth = search rules in
    let below : SFits w128 (get_or rule.below.now (c.loop-s.s - rule.shift) (pos 0)) = search rules in
    let line : SFits w128 (get_or rule.line.now c.loop-s.s (pos 0)) = search rules in
    record {
      within = omega arith;
      before = c.loop-s.invariant;
      fails = λ lt all. absurd (false≢true (c.if-not-covers.ensures.1 (rw (
        to_z-of_z w128 rule.worth worth,
        to_z-of_z w128 (get_or rule.below.now (c.loop-s.s - rule.shift) (pos 0)) below,
        to_z-of_z w128 (get_or rule.line.now c.loop-s.s (pos 0)) line,
      )
          (all (omega arith) (omega (arith, c.min-s-end.ensures))))));
    }
