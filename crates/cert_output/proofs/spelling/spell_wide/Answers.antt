use Rattle.std.proofs.Common.{◌≡◌, ◌∙◌, ◌∷◌, ◌++◌, ◌+◌, ◌-◌, ℕ, ℤ, ap, subst, arith, rules, drop, get_or, pos, FitsSigned, sym}
use Rattle.std.specs.Int.{w128}
use Rattle.std.proofs.lemmas.Int.{to_z-of_z}
use Rattle.wide_num.specs.Range.{InRange}
use Rattle.line_format.specs.Numeral.{numbers_text, signed_numeral}
use Rattle.cert_output.proofs.FieldSteps.{number-more, range-at}
use Rattle.cert_output.proofs.spelling.spell_wide.Goals as goal

pub put_number-start-requires-clause-range : goal.put_number-start-requires-clause-range
put_number-start-requires-clause-range c =
    let ns = c.args.numbers.now in
    let k = c.loop-k.k in
    let fits : FitsSigned w128 (get_or ns (k - 1) (pos 0)) = search rules in
    subst InRange (sym (to_z-of_z w128 (get_or ns (k - 1) (pos 0)) fits))
    (range-at ns (k - 1) c.requires.range (omega (arith, c.loop-k.invariant.inside, c.loop-k-test.true)))

pub loop-k-preserved : goal.loop-k-preserved
loop-k-preserved c =
    let ns = c.args.numbers.now in
    let k = c.loop-k.k in
    let up : k ≡ k - 1 + 1 = omega (arith, c.loop-k-test.true) in
    let n = get_or ns (k - 1) (pos 0) in
    let fits : FitsSigned w128 n = search rules in
    let rest : drop c.loop-k.start c.loop-k.room ≡ numbers_text (drop (k - 1 + 1) ns) = subst
    (λ (i : ℕ). drop c.loop-k.start c.loop-k.room ≡ numbers_text (drop i ns)) up c.loop-k.invariant.fields in
    record {
      left = omega (arith, c.put_number-start.ensures.start, c.loop-k.invariant.left);
      within = omega (arith, c.put_number-start.ensures.start, c.loop-k.invariant.within);
      inside = omega (arith, c.loop-k.invariant.inside);
      fields = number-more ns (k - 1) (drop c.loop-k.start c.loop-k.room) _
          (omega (arith, c.loop-k.invariant.inside, c.loop-k-test.true)) rest
          (c.put_number-start.ensures.field ∙ ap (λ (z : ℤ). 32 ∷ signed_numeral z ++ drop c.loop-k.start c.loop-k.room) (to_z-of_z w128 n fits));
    }
