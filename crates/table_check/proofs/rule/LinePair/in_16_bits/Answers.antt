use Rattle.std.proofs.Common.{◌≡◌, ◌∙◌, ◌^◌, ℤ, List, subst, sym}
use Rattle.choices.specs.Coarse.{AreCoarse}
use Rattle.table_check.proofs.rule.LinePair.in_16_bits.Goals as goal

pub invariant_of-result : goal.invariant_of-result
invariant_of-result c =
    let pair = c.args.self.now in
    let own = c.in_64_bits in
    let narrow = pair.narrow c.requires.narrow in
    let coarse = pair.coarse c.requires.coarse in
    let line : pair.narrow_line.now ≡ own.result.line.now = narrow.same ∙ sym own.ensures.line in
    let below : pair.narrow_below.now ≡ own.result.below.now = narrow.same_below ∙ sym own.ensures.below in
    record {
      range = coarse.0;
      coarse = subst (λ (l : List ℤ). AreCoarse (2 ^ pair.shift) own.result.line.now l pair.low.now pair.high.now) below
          (subst (λ (l : List ℤ). AreCoarse (2 ^ pair.shift) l pair.narrow_below.now pair.low.now pair.high.now) line coarse.1);
    }
