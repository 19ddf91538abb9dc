use Rattle.std.proofs.Common.{rules, ◌≡◌, ◌∙◌, ap, sym, ◌∷◌, [], ◌++◌, List, ℕ, pos, get_or, FitsSigned, to_z}
use Rattle.std.specs.Fmt.{signed_decimal}
use Rattle.std.specs.Int.{w128}
use Rattle.std.proofs.lemmas.Int.{to_z-of_z}
use Rattle.line_format.proofs.NumberRuns.{next_in_run}
use Rattle.line_format.proofs.write.add_run.Goals as goal

pub loop-i-preserved : goal.loop-i-preserved
loop-i-preserved c =
    let ns = c.args.numbers.now in
    let n = get_or ns c.loop-i.i (pos 0) in
    let fits : FitsSigned w128 (get_or ns c.loop-i.i (pos 0)) = search rules in
    let digits : c.as_bytes-digits.result.now ≡ signed_decimal (get_or ns c.loop-i.i (pos 0)) =
    c.as_bytes-digits.ensures.value ∙ c.format.ensures.text ∙ ap (λ b. signed_decimal (to_z w128 b)) (sym c.if-number-first.false)
    ∙ ap signed_decimal (to_z-of_z w128 n fits) in
    let step : c.add.new.self ≡ (c.loop-i.text ++ 32 ∷ []) ++ signed_decimal n =
    c.in_ok-add.ensures ∙ ap (λ (t : List ℕ). c.push.new.self ++ t) digits ∙ ap (λ (t : List ℕ). t ++ signed_decimal n) c.in_ok-push.ensures in
    next_in_run ns c.loop-i.i c.args.text.now c.loop-i.text c.add.new.self c.requires.range c.loop-i-test.true c.loop-i.invariant step
