use Rattle.std.proofs.Common.{◌≡◌, ℕ, ◌+◌, length, unsigned_abs, rules, FitsSigned, [], ◌∷◌, ◌++◌, ◌∙◌, ap}
use Rattle.std.specs.Int.{w128}
use Rattle.std.proofs.lemmas.Int.{to_z-of_z}
use Rattle.lin_solve.specs.Pivots.{pivot}
use Rattle.lin_solve.proofs.CommonFacts.{den_common, room_by, values_more}
use Rattle.far_num.specs.declared.Far.{Far}
use Rattle.std.proofs.lemmas.List.{length_push}
use Rattle.lin_solve.proofs.common.values.Goals as goal

pub quotient-far-requires-clause-room : goal.quotient-far-requires-clause-room
quotient-far-requires-clause-room c =
    let d = c.ranges.den in
    let f : FitsSigned w128 (pivot c.args.pivots.now c.loop-pivot.pivot-index).far = search rules in
    simp to_z-of_z (room_by c.args.den (pivot c.args.pivots.now c.loop-pivot.pivot-index).far (unsigned_abs c.requires.common.k)
    (den_common c.args.pivots.now c.args.den c.requires.common c.requires.den.least)
    (c.requires.common.fars c.loop-pivot.pivot-index c.loop-pivot-test.true))

pub quotient-far-requires-clause-whole : goal.quotient-far-requires-clause-whole
quotient-far-requires-clause-whole c =
    let d = c.ranges.den in
    let f : FitsSigned w128 (pivot c.args.pivots.now c.loop-pivot.pivot-index).far = search rules in
    let g : FitsSigned w128 (pivot c.args.pivots.now c.loop-pivot.pivot-index).c = search rules in
    simp to_z-of_z ((c.requires.den.whole c.loop-pivot.pivot-index c.loop-pivot-test.true).0)

pub quotient-near-requires-clause-room : goal.quotient-near-requires-clause-room
quotient-near-requires-clause-room c =
    let d = c.ranges.den in
    let f : FitsSigned w128 (pivot c.args.pivots.now c.loop-pivot.pivot-index).near = search rules in
    simp to_z-of_z (room_by c.args.den (pivot c.args.pivots.now c.loop-pivot.pivot-index).near (unsigned_abs c.requires.common.k)
    (den_common c.args.pivots.now c.args.den c.requires.common c.requires.den.least)
    (c.requires.common.nears c.loop-pivot.pivot-index c.loop-pivot-test.true))

pub quotient-near-requires-clause-whole : goal.quotient-near-requires-clause-whole
quotient-near-requires-clause-whole c =
    let d = c.ranges.den in
    let f : FitsSigned w128 (pivot c.args.pivots.now c.loop-pivot.pivot-index).near = search rules in
    let g : FitsSigned w128 (pivot c.args.pivots.now c.loop-pivot.pivot-index).c = search rules in
    simp to_z-of_z ((c.requires.den.whole c.loop-pivot.pivot-index c.loop-pivot-test.true).1)

pub loop-pivot-preserved : goal.loop-pivot-preserved
loop-pivot-preserved c =
    let d = c.ranges.den in
    let x : FitsSigned w128 (pivot c.args.pivots.now c.loop-pivot.pivot-index).far = search rules in
    let y : FitsSigned w128 (pivot c.args.pivots.now c.loop-pivot.pivot-index).near = search rules in
    let g : FitsSigned w128 (pivot c.args.pivots.now c.loop-pivot.pivot-index).c = search rules in
    let m : FitsSigned w128 c.quotient-far.result = search rules in
    let n : FitsSigned w128 c.quotient-near.result = search rules in
    let f : Far = record { far = c.quotient-far.result; near = c.quotient-near.result } in
    let pushed : c.push.new.self ≡ c.loop-pivot.out ++ record { far = c.quotient-far.result; near = c.quotient-near.result } ∷ [] =
    simp to_z-of_z at c.in_ok-push.ensures in
    simp to_z-of_z (record {
      long = ap length pushed ∙ length_push c.loop-pivot.out (record { far = c.quotient-far.result; near = c.quotient-near.result })
          ∙ ap (λ (k : ℕ). k + 1) c.loop-pivot.invariant.long;
      values = values_more c.args.pivots.now c.args.den c.loop-pivot.pivot-index c.loop-pivot.out c.push.new.self
          (record { far = c.quotient-far.result; near = c.quotient-near.result }) pushed c.loop-pivot.invariant.long
          (simp to_z-of_z at c.loop-pivot.invariant.values) (simp to_z-of_z at c.quotient-far.ensures) (simp to_z-of_z at c.quotient-near.ensures);
    })

pub quotient-far-requires-clause-apart : goal.quotient-far-requires-clause-apart
quotient-far-requires-clause-apart c = search rules

pub quotient-near-requires-clause-apart : goal.quotient-near-requires-clause-apart
quotient-near-requires-clause-apart c = search rules

pub returns-clause-long : goal.returns-clause-long
returns-clause-long c = search rules

pub returns-clause-values : goal.returns-clause-values
returns-clause-values c = search rules
