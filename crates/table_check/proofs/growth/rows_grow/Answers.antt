use Rattle.std.proofs.lemmas.Grind.{common_steps}
use Rattle.std.proofs.Common.{◌≡◌, ◌∙◌, ℕ, ◌+◌, ◌-◌, ◌*◌, ◌≤◌, inl, inr, subst, arith, refl, length, drop, take}
use Rattle.std.proofs.lemmas.Bool.{cases_lt}
use Rattle.std.proofs.lemmas.List.{length-drop, length-take-le}
use Rattle.auction_model.specs.Place.{states_of}
use Rattle.table_check.specs.Growth.{Grows, RisesBy}
use Rattle.table_check.proofs.BlockLaws.{digit-room}
use Rattle.table_check.proofs.GrowthLaws.{grows-last, last-width}
use Rattle.table_check.proofs.growth.rows_grow.Goals as goal

pub loop-row-preserved : goal.loop-row-preserved
loop-row-preserved c = λ q low.
    let supply = c.args.supply.now in
    let line = c.args.line.now in
    let W = c.args.width in
    let d = c.loop-row.row in
    let k = d * W + W - d * W in
    let k_is : k ≡ W = omega arith in
    let row = take W (drop (d * W) line) in
    let rises : RisesBy 1 row = subst (λ (n : ℕ). RisesBy 1 (take n (drop (d * W) line))) k_is (c.if-not-rises_narrow.ensures refl) in
    let room : d * W + W ≤ length line = rw c.requires.width (omega
    (arith, digit-room supply d (omega (arith, c.requires.two)) c.loop-row-test.true, c.requires.places)) in
    let places : length row ≡ states_of (drop 1 supply) =
    length-take-le W (drop (d * W) line) (omega (arith, length-drop (d * W) line, room)) ∙ c.requires.width in
    let one : length (drop 1 supply) ≡ 1 = omega (arith, length-drop 1 supply, c.requires.two) in
    let own : Grows (drop 1 supply) row = grows-last (drop 1 supply) row 1 one (last-width (drop 1 supply) one) places rises in
    elim (cases_lt q d) [
      | inl before ↦ c.loop-row.invariant q before
      | inr here ↦ (
          let is : d ≡ q = omega (arith, low, here) in
          subst (λ (n : ℕ). Grows (drop 1 supply) (take W (drop (n * W) line))) is own)
    ]

pub slice_bounds-rises_narrow-end : goal.slice_bounds-rises_narrow-end
slice_bounds-rises_narrow-end c = grind (arith, common_steps)

pub rises_narrow-requires : goal.rises_narrow-requires
rises_narrow-requires c = grind (arith, common_steps)
