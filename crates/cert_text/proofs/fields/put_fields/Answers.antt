use Rattle.std.proofs.Common.{◌≡◌, ◌∙◌, ◌+◌, ◌-◌, ℕ, subst, arith, rules, get_or, drop, pos, FitsSigned, sym}
use Rattle.std.specs.Int.{w128}
use Rattle.std.proofs.lemmas.Int.{to_z-of_z}
use Rattle.line_format.specs.Numeral.{numbers_text}
use Rattle.cert_text.proofs.SpelledLaws.{field-more}
use Rattle.cert_text.proofs.fields.put_fields.Goals as goal

pub loop-k-preserved : goal.loop-k-preserved
loop-k-preserved c =
    let ns = c.args.numbers.now in
    let k = c.loop-k.k in
    let up : k ≡ k - 1 + 1 = omega (arith, c.loop-k-test.true) in
    let n = get_or ns (k - 1) (pos 0) in
    let fits : FitsSigned w128 n = search rules in
    let is : n ≡ pos c.in_ok-short.field-0 = sym (to_z-of_z w128 n fits) ∙ c.in_ok-short.ensures in
    let rest : drop c.loop-k.start c.loop-k.room ≡ numbers_text (drop (k - 1 + 1) ns) = subst
    (λ (i : ℕ). drop c.loop-k.start c.loop-k.room ≡ numbers_text (drop i ns)) up c.loop-k.invariant.fields in
    record {
      left = omega (arith, c.put_field-start.ensures.start, c.loop-k.invariant.left);
      within = omega (arith, c.put_field-start.ensures.start, c.loop-k.invariant.within);
      inside = omega (arith, c.loop-k.invariant.inside);
      fields = field-more ns (k - 1) c.in_ok-short.field-0 (drop c.loop-k.start c.loop-k.room) _
          (omega (arith, c.loop-k.invariant.inside, c.loop-k-test.true)) (search rules) is rest c.put_field-start.ensures.field;
    }
