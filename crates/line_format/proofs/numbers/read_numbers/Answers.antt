use Rattle.std.proofs.Common.{Bool, FitsSigned, List, [], ap, arith, drop, get_or, length, length-drop, rules, subst, sym, take, ℤ, ◌++◌, ◌+◌, ◌-◌}
use Rattle.std.proofs.Common.{◌∙◌, ◌∷◌, ◌≡◌, ◌≢◌}
use Rattle.std.specs.Prelude.{◌||◌}
use Rattle.std.specs.Int.{w128}
use Rattle.std.proofs.lemmas.Bool.Decides.{nat_tests}
use Rattle.std.proofs.lemmas.Int.{to_z-of_z}
use Rattle.std.proofs.lemmas.List.{take_all}
use Rattle.line_format.specs.Fields.{IsNoField, KeepsNumbers}
use Rattle.line_format.proofs.FieldRuns.{numbers-more, no_space, no_field}
use Rattle.line_format.proofs.numbers.read_numbers.Goals as goal
use Rattle.line_format.proofs.numbers.read_numbers.Goals.{then-beyond, else-beyond}

pub returns-then-text-at-ne32-clause-form : goal.returns-then-text-at-ne32-clause-form
returns-then-text-at-ne32-clause-form c = λ _.
    let other : get_or c.args.text.now c.loop-at.at 0 ≢ 32 = grind (arith, nat_tests) in
    no_space c.args.text.now c.loop-at.at c.loop-at.invariant.0 c.loop-at.out.items c.loop-at.beyond c.loop-at.invariant.1 c.loop-at-test.true other

pub returns-in_default-clause-form : goal.returns-in_default-clause-form
returns-in_default-clause-form c = λ _.
    let whole : take (length c.args.text.now - (c.loop-at.at + 1)) (drop (c.loop-at.at + 1) c.args.text.now) ≡ drop (c.loop-at.at + 1) c.args.text.now =
    take_all _ _ (omega (arith, length-drop (c.loop-at.at + 1) c.args.text.now)) in
    no_field c.args.text.now c.loop-at.at c.loop-at.invariant.0 c.loop-at.out.items c.loop-at.beyond c.loop-at.invariant.1 c.loop-at-test.true
    (subst IsNoField whole (c.in_default.ensures {u = tt}))

pub loop-at-preserved : goal.loop-at-preserved
loop-at-preserved c =
    let whole : take (length c.args.text.now - (c.loop-at.at + 1)) (drop (c.loop-at.at + 1) c.args.text.now) ≡ drop (c.loop-at.at + 1) c.args.text.now =
    take_all _ _ (omega (arith, length-drop (c.loop-at.at + 1) c.args.text.now)) in
    let field = rw whole at c.in-Some.ensures in
    let space : get_or c.args.text.now c.loop-at.at 0 ≡ 32 = grind (arith, nat_tests) in
    let flag : c.if-beyond.beyond ≡ c.loop-at.beyond || c.in-Some.kept.beyond =
    elim c.if-beyond.branch [
      | then-beyond w ↦ w.beyond-is ∙ w.if-beyond.true ∙ sym (ap (λ (b : Bool). b || c.in-Some.kept.beyond) w.if-beyond.true)
      | else-beyond w ↦ w.beyond-is ∙ sym (ap (λ (b : Bool). b || c.in-Some.kept.beyond) w.if-beyond.false)
    ] in
    let f : FitsSigned w128 c.in-Some.kept.number = search rules in
    let pushed : c.push.new.self.items ≡ c.loop-at.out.items ++ c.in-Some.kept.number ∷ [] = simp to_z-of_z at c.in-Ok.ensures.items in
    let more = numbers-more c.args.text.now c.loop-at.at c.loop-at.invariant.0 c.loop-at.out.items c.loop-at.beyond c.in-Some.kept field.0
    c.loop-at.invariant.1 c.loop-at-test.true space field.1 in (
      c.loop-at.invariant.0 ++ field.0 ∷ [],
      subst (λ (b : Bool). KeepsNumbers c.args.text.now (c.loop-at.at + (c.in-Some.kept.stop + 1))
          (c.loop-at.invariant.0 ++ field.0 ∷ []) c.push.new.self.items b) (sym flag)
          (subst (λ (l : List ℤ). KeepsNumbers c.args.text.now (c.loop-at.at + (c.in-Some.kept.stop + 1)) (c.loop-at.invariant.0 ++ field.0 ∷ []) l
          (c.loop-at.beyond || c.in-Some.kept.beyond)) (sym pushed) more),
    )
