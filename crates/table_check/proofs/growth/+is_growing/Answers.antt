use Rattle.std.proofs.Common.{◌≡◌, ◌∙◌, ℕ, ◌+◌, ◌-◌, ◌*◌, inl, inr, ap, subst, arith, refl, get_or, List, drop, take}
use Rattle.std.proofs.lemmas.Bool.{cases_lt}
use Rattle.auction_model.specs.Place.{states_of}
use Rattle.auction_model.proofs.RunLaws.{width-first, widths-count}
use Rattle.table_check.specs.Growth.{Grows}
use Rattle.table_check.proofs.BlockLaws.{tail-whole}
use Rattle.table_check.proofs.GrowthLaws.{grows-last, grows-list}
use Rattle.table_check.proofs.growth.+is_growing.Goals as goal

pub bounds-widths-0 : goal.bounds-widths-0
bounds-widths-0 t c = rw c.requires.widths (omega (arith, widths-count c.args.supply.now, c.requires.some))

pub returns-then-supply-eq1 : goal.returns-then-supply-eq1
returns-then-supply-eq1 t c = λ _.
    let supply = c.args.supply.now in
    let width : get_or c.args.widths.now 0 0 ≡ states_of (drop 1 supply) = ap (λ (l : List ℕ). get_or l 0 0) c.requires.widths
    ∙ width-first supply c.requires.some in
    grows-last supply c.args.line.now (get_or c.args.widths.now 0 0) c.if-supply-eq1.true width c.requires.places (c.if-not-rises_by.ensures refl)

pub loop-block-preserved : goal.loop-block-preserved
loop-block-preserved t c =
    let supply = c.args.supply.now in
    let W = get_or c.args.widths.now 0 0 in
    let b = c.loop-block.block in
    let k = b * W + W - b * W in
    let k_is : k ≡ W = omega arith in
    let own : Grows (drop 1 supply) (take k (drop (b * W) c.args.line.now)) = rw (tail-whole supply) at (c.if-not-is_growing.ensures refl) in
    let block : Grows (drop 1 supply) (take W (drop (b * W) c.args.line.now)) = subst
    (λ (n : ℕ). Grows (drop 1 supply) (take n (drop (b * W) c.args.line.now))) k_is own in
    record {
      width = c.loop-block.invariant.width;
      rises = c.loop-block.invariant.rises;
      blocks = λ q low. elim (cases_lt q b) [
        | inl before ↦ c.loop-block.invariant.blocks q before
        | inr here ↦ (let is : b ≡ q = omega (arith, low, here) in subst (λ (n : ℕ). Grows (drop 1 supply) (take W (drop (n * W) c.args.line.now))) is block)
      ];
    }

pub returns : goal.returns
returns t c = λ _.
    grows-list c.args.supply.now c.args.line.now (get_or c.args.widths.now 0 0) c.loop-block.block c.requires.some c.loop-block.invariant.width
    c.requires.places (omega (arith, c.loop-block-test.false)) c.loop-block.invariant.rises c.loop-block.invariant.blocks
