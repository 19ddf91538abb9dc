use Rattle.std.proofs.Common.{◌≡◌, ◌+◌, ◌-◌, ◌<◌, ◌^◌, ℕ, subst, arith, rules, drop, get_or, map, pos}
use Rattle.line_format.specs.Numeral.{numbers_text}
use Rattle.cert_output.proofs.FieldSteps.{natural-more}
use Rattle.cert_output.proofs.spelling.spell_short.Goals as goal

pub loop-k-preserved : goal.loop-k-preserved
loop-k-preserved c =
    let ns = c.args.numbers.now in
    let k = c.loop-k.k in
    let up : k ≡ k - 1 + 1 = omega (arith, c.loop-k-test.true) in
    let small : get_or ns (k - 1) 0 < 2 ^ 64 = search rules in
    let rest : drop c.loop-k.start c.loop-k.room ≡ numbers_text (map (λ n. pos n) (drop (k - 1 + 1) ns)) = subst
    (λ (i : ℕ). drop c.loop-k.start c.loop-k.room ≡ numbers_text (map (λ n. pos n) (drop i ns))) up c.loop-k.invariant.fields in
    record {
      left = omega (arith, c.put_natural-start.ensures.start, c.loop-k.invariant.left);
      within = omega (arith, c.put_natural-start.ensures.start, c.loop-k.invariant.within);
      inside = omega (arith, c.loop-k.invariant.inside);
      fields = natural-more ns (k - 1) (drop c.loop-k.start c.loop-k.room) _
          (omega (arith, c.loop-k.invariant.inside, c.loop-k-test.true)) small rest c.put_natural-start.ensures.field;
    }
