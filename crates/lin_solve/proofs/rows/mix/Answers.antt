use Rattle.std.proofs.Common.{◌≡◌, ℕ, ℤ, pos, ◌-ℤ◌, ◌*ℤ◌, slice_index_or, FitsSigned, rules, ◌∷◌, [], ◌++◌, ◌∙◌, ap}
use Rattle.std.specs.Int.{w128}
use Rattle.std.proofs.lemmas.Int.{to_z-of_z}
use Rattle.wide_num.specs.Sums.{nth}
use Rattle.lin_solve.proofs.Pushed.{grown, grown_length}
use Rattle.lin_solve.proofs.rows.mix.Goals as goal

pub loop-i-preserved : goal.loop-i-preserved
loop-i-preserved c =
    let s = c.ranges.s in let t = c.ranges.t in
    let v : FitsSigned w128 (slice_index_or c.args.v.now c.loop-i.i (pos 0)) = search rules in
    let w : FitsSigned w128 (slice_index_or c.args.w.now c.loop-i.i (pos 0)) = search rules in
    let x : FitsSigned w128 c.minus_products.result = search rules in
    let pushed : c.push.new.self ≡ c.loop-i.out ++ c.minus_products.result ∷ [] = c.in_ok-push.ensures
    ∙ ap (λ (y : ℤ). c.loop-i.out ++ y ∷ []) (to_z-of_z w128 c.minus_products.result x) in
    let here : c.minus_products.result ≡ c.args.s *ℤ nth c.args.v.now c.loop-i.i -ℤ c.args.t *ℤ nth c.args.w.now c.loop-i.i =
    simp to_z-of_z at c.minus_products.ensures in
    simp to_z-of_z (record {
      long = grown_length c.loop-i.out c.push.new.self c.minus_products.result c.loop-i.i pushed c.loop-i.invariant.long;
      is = grown (λ (k : ℕ) (y : ℤ). y ≡ c.args.s *ℤ nth c.args.v.now k -ℤ c.args.t *ℤ nth c.args.w.now k) c.loop-i.out c.push.new.self
          c.minus_products.result c.loop-i.i pushed c.loop-i.invariant.long (simp to_z-of_z at c.loop-i.invariant.is) here;
    })

pub minus_products-requires : goal.minus_products-requires
minus_products-requires c = search rules
