use Rattle.std.proofs.Common.{◌≡◌, ◌∙◌, ℕ, ◌+◌, ◌*◌, inl, inr, subst, arith, length, get_or, refl}
use Rattle.std.proofs.lemmas.Bool.{cases_lt}
use Rattle.std.proofs.lemmas.Nat.{mul-add-lt}
use Rattle.choices.proofs.coarse.put_parts.Goals as goal

pub loop-block-preserved : goal.loop-block-preserved
loop-block-preserved c =
    let W = length c.args.part.now in
    let d = c.loop-block.block in
    record {
      places = c.put_part.ensures.places ∙ c.loop-block.invariant.places;
      width = refl;
      parts = λ q i from low inside. elim (cases_lt q d) [
        | inl before ↦ c.put_part.ensures.before (q * W + i) (omega (arith, mul-add-lt q W i d before inside))
            ∙ c.loop-block.invariant.parts q i from before inside
        | inr here ↦ (
            let is : d ≡ q = omega (arith, low, here) in
            subst (λ (n : ℕ). get_or c.put_part.new.mask (n * W + i) 0 ≡ get_or c.args.part.now i 0) is (c.put_part.ensures.part i inside))
      ];
    }
