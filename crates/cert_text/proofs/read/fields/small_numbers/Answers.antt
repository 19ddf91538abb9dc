use Rattle.std.proofs.Common.{◌≡◌, ◌∷◌, ◌++◌, false, true, get_or, rules, sym, subst, [], List, ℕ, ◌+◌, take, FitsSigned}
use Rattle.std.specs.Prelude.{pos}
use Rattle.std.specs.Int.{w128}
use Rattle.std.specs.Int.Signed.{lt_z}
use Rattle.std.proofs.Math.IntN.{nat_abs}
use Rattle.std.proofs.lemmas.Int.{to_z-of_z}
use Rattle.cert_text.specs.Readers.{AreSmall}
use Rattle.cert_text.proofs.SmallNumbers.{low_other, high_other, small_more}
use Rattle.cert_text.proofs.read.fields.small_numbers.Goals as goal
use Rattle.cert_text.proofs.read.fields.small_numbers.Goals.{then-item-lt0-via-then-item-lt0, then-item-lt0-via-else-item-lt0+then-item}

pub returns-then-item-lt0 : goal.returns-then-item-lt0
returns-then-item-lt0 c = λ all.
    let f : FitsSigned w128 (get_or c.args.items.now c.loop-item.item-index (pos 0)) = search rules in
    elim c.then-item-lt0.branch [
      | then-item-lt0-via-then-item-lt0 w ↦ (let e : lt_z (get_or c.args.items.now c.loop-item.item-index (pos 0)) (pos 0) ≡ true =
          simp to_z-of_z at w.if-item-lt0.true in
          low_other c.args.items.now c.loop-item.item-index c.loop-item-test.true e all)
      | then-item-lt0-via-else-item-lt0+then-item w ↦ (let e : lt_z (pos 65535) (get_or c.args.items.now c.loop-item.item-index (pos 0)) ≡ true =
          simp to_z-of_z at w.if-item.true in
          high_other c.args.items.now c.loop-item.item-index c.loop-item-test.true e all)
    ]

pub loop-item-preserved : goal.loop-item-preserved
loop-item-preserved c =
    let f : FitsSigned w128 (get_or c.args.items.now c.loop-item.item-index (pos 0)) = search rules in
    let pushed : c.push.new.self ≡ c.loop-item.numbers ++ nat_abs (get_or c.args.items.now c.loop-item.item-index (pos 0)) ∷ [] =
    simp to_z-of_z at c.in_ok-push.ensures.pushed in
    let low : lt_z (get_or c.args.items.now c.loop-item.item-index (pos 0)) (pos 0) ≡ false = simp to_z-of_z at c.if-item-lt0.false in
    let high : lt_z (pos 65535) (get_or c.args.items.now c.loop-item.item-index (pos 0)) ≡ false = simp to_z-of_z at c.if-item.false in
    subst (λ (ns : List ℕ). AreSmall (take (c.loop-item.item-index + 1) c.args.items.now) ns) (sym pushed)
    (small_more c.args.items.now c.loop-item.item-index c.loop-item.numbers c.loop-item-test.true c.loop-item.invariant low high)
