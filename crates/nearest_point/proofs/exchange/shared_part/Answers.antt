use Rattle.std.proofs.Common.{◌≡◌, ◌⊎◌, inl, inr, arith, to_z, of_z}
use Rattle.std.specs.Prelude.{ℤ, pos, ◌-ℤ◌, ◌≤ℤ◌}
use Rattle.std.specs.Int.{w128}
use Rattle.std.proofs.lemmas.Int.{ints}
use Rattle.lin_solve.proofs.Pushed.{grown, grown_length}
use Rattle.wide_num.specs.Sums.{nth}
use Rattle.nearest_point.proofs.exchange.shared_part.Goals as goal

below : (r x : ℤ) → (r ≡ to_z w128 (of_z w128 x)) ⊎ (r ≡ pos 0) → ((pos 0 -ℤ pos 20) ≤ℤ x) × (x ≤ℤ pos 0)
    → ((pos 0 -ℤ pos 20) ≤ℤ to_z w128 (of_z w128 r)) × (to_z w128 (of_z w128 r) ≤ℤ pos 0)
below r x (inl e) h = let a = h.0 in let b = h.1 in (omega (arith, ints), omega (arith, ints))
below r x (inr e) h = (omega (arith, ints), omega (arith, ints))

pub loop-j-preserved : goal.loop-j-preserved
loop-j-preserved c =
    let j = c.loop-j.j in
    let x = to_z w128 (of_z w128 c.member_part.result) in
    let here = below c.member_part.result (nth c.args.lowered.now j) c.member_part.ensures.either (c.requires.lowered j c.loop-j-test.true) in
    let long = c.loop-j.invariant.long in
    let more = grown_length c.loop-j.out.items c.push.new.self.items x j c.in_ok-push.ensures.items long in
    record {
      long = more;
      small = λ i lt. grown (λ j z. ((pos 0 -ℤ pos 20) ≤ℤ z) × (z ≤ℤ pos 0))
          c.loop-j.out.items c.push.new.self.items x j c.in_ok-push.ensures.items long
          (λ i lt. c.loop-j.invariant.small i (omega arith)) here i (omega arith);
    }
