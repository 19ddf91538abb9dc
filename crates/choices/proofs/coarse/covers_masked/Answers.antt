use Rattle.std.proofs.Common.{◌≡◌, ◌∙◌, ℕ, ◌+◌, ◌-◌, ◌^◌, ◌≤◌, ◌%◌, inl, inr, ap, sym, subst, arith, get_or, bit_and}
use Rattle.std.proofs.lemmas.Bool.{cases_lt}
use Rattle.std.proofs.lemmas.Nat.{and_mask, le_or_l, le_or_r}
use Rattle.choices.proofs.coarse.covers_masked.Goals as goal

pub loop-i-preserved : goal.loop-i-preserved
loop-i-preserved c = λ none s low named.
    let k = c.loop-i.i in
    let high = c.args.high.now in
    let mask = c.args.mask.now in
    let over = c.saturating_sub.result in
    let before : c.loop-i.over ≡ 0 = omega (arith, none, le_or_l c.loop-i.over (bit_and over (get_or mask k 0))) in
    let own : bit_and over (get_or mask k 0) ≡ 0 = omega (arith, none, le_or_r c.loop-i.over (bit_and over (get_or mask k 0))) in
    elim (cases_lt s k) [
      | inl earlier ↦ c.loop-i.invariant before s earlier named
      | inr here ↦ (
          let is : k ≡ s = omega (arith, low, here) in
          let all : get_or mask k 0 ≡ 2 ^ 16 - 1 = ap (λ (n : ℕ). get_or mask n 0) is ∙ named in
          let left : over % 2 ^ 16 ≡ 0 = sym (and_mask over 16) ∙ ap (bit_and over) (sym all) ∙ own in
          let size : over ≡ (get_or high k 0 + c.args.worth) - get_or c.args.low.now k 0 = c.saturating_sub.ensures in
          let short : get_or high k 0 ≤ 2 ^ 15 = c.requires.short k (omega (arith, c.loop-i-test.true, c.requires.places)) in
          let whole : get_or high k 0 + c.args.worth ≤ get_or c.args.low.now k 0 = omega (arith, left, size, short, c.requires.worth) in
          subst (λ (n : ℕ). get_or high n 0 + c.args.worth ≤ get_or c.args.low.now n 0) is whole)
    ]
