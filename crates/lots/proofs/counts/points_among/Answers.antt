use Rattle.std.proofs.Common.{◌∙◌, ◌≤◌, ◌<◌, ◌*◌, ◌^◌, get_or, length, sym, arith, rules}
use Rattle.std.proofs.lemmas.List.Elements.{All-get_or}
use Rattle.std.proofs.Math.Nat.{mul-le-mul}
use Rattle.lots.proofs.CountLaws.{cost-step}
use Rattle.lots.proofs.counts.points_among.Goals as goal

pub loop-i-preserved : goal.loop-i-preserved
loop-i-preserved c =
    let points = c.args.points.now in
    let counts = c.args.counts.now in
    let inside : c.loop-i.i < length points = omega arith in
    let point : get_or points c.loop-i.i 0 ≤ 10000 = All-get_or (λ p. p ≤ 10000) points c.loop-i.i 0 inside c.requires.most in
    let count : get_or counts c.loop-i.i 0 < 2 ^ 16 = search rules in
    let small : get_or counts c.loop-i.i 0 ≤ 2 ^ 16 = omega arith in
    let both : get_or points c.loop-i.i 0 * get_or counts c.loop-i.i 0 ≤ 10000 * 2 ^ 16 = mul-le-mul point small in
    record {
      whole = sym (cost-step points counts c.loop-i.i c.loop-i.sum (omega arith) c.requires.points) ∙ c.loop-i.invariant.whole;
      most = omega arith;
    }

pub overflow_add-sum : goal.overflow_add-sum
overflow_add-sum c =
    let points = c.args.points.now in
    let counts = c.args.counts.now in
    let inside : c.loop-i.i < length points = omega arith in
    let point : get_or points c.loop-i.i 0 ≤ 10000 = All-get_or (λ p. p ≤ 10000) points c.loop-i.i 0 inside c.requires.most in
    let count : get_or counts c.loop-i.i 0 < 2 ^ 16 = search rules in
    let small : get_or counts c.loop-i.i 0 ≤ 2 ^ 16 = omega arith in
    let both : get_or points c.loop-i.i 0 * get_or counts c.loop-i.i 0 ≤ 10000 * 2 ^ 16 = mul-le-mul point small in
    search rules
