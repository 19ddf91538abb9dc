use Rattle.std.proofs.Common.{◌≡◌, ℕ, ℤ, pos, ◌*ℤ◌, slice_index_or, FitsSigned, rules, ◌∷◌, [], ◌++◌, ◌∙◌, ap}
use Rattle.std.specs.Int.{w128}
use Rattle.std.proofs.lemmas.Int.{to_z-of_z}
use Rattle.wide_num.specs.Sums.{nth}
use Rattle.lin_solve.proofs.Pushed.{grown, grown_length}
use Rattle.lin_solve.proofs.rows.quotients.Goals as goal

pub div_exact-requires-clause-divides : goal.div_exact-requires-clause-divides
div_exact-requires-clause-divides c =
    let g = c.ranges.g in
    let v : FitsSigned w128 (slice_index_or c.args.v.now c.loop-x.x-index (pos 0)) = search rules in
    simp to_z-of_z (c.requires.divides c.loop-x.x-index c.loop-x-test.true)

pub loop-x-preserved : goal.loop-x-preserved
loop-x-preserved c =
    let g = c.ranges.g in
    let v : FitsSigned w128 (slice_index_or c.args.v.now c.loop-x.x-index (pos 0)) = search rules in
    let x : FitsSigned w128 c.div_exact.result = search rules in
    let pushed : c.push.new.self ≡ c.loop-x.out ++ c.div_exact.result ∷ [] = c.in_ok-push.ensures ∙ ap (λ (y : ℤ). c.loop-x.out ++ y ∷ [])
    (to_z-of_z w128 c.div_exact.result x) in
    let here : c.args.g *ℤ c.div_exact.result ≡ nth c.args.v.now c.loop-x.x-index = simp to_z-of_z at c.div_exact.ensures in
    simp to_z-of_z (record {
      long = grown_length c.loop-x.out c.push.new.self c.div_exact.result c.loop-x.x-index pushed c.loop-x.invariant.long;
      is = grown (λ (k : ℕ) (y : ℤ). c.args.g *ℤ y ≡ nth c.args.v.now k) c.loop-x.out c.push.new.self c.div_exact.result c.loop-x.x-index pushed
          c.loop-x.invariant.long (simp to_z-of_z at c.loop-x.invariant.is) here;
    })
