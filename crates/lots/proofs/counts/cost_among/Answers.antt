use Rattle.std.proofs.Common.{◌∙◌, ◌≤◌, ◌<◌, ◌*◌, ◌^◌, get_or, length, sym, arith, rules}
use Rattle.std.proofs.lemmas.List.Elements.{All-get_or}
use Rattle.std.proofs.Math.Nat.{mul-le-mul}
use Rattle.lots.proofs.CountLaws.{cost-step}
use Rattle.lots.proofs.counts.cost_among.Goals as goal

pub loop-i-preserved : goal.loop-i-preserved
loop-i-preserved c =
    let prices = c.args.prices.now in
    let counts = c.args.counts.now in
    let inside : c.loop-i.i < length prices = omega arith in
    let price : get_or prices c.loop-i.i 0 ≤ 2 ^ 36 = All-get_or (λ p. p ≤ 2 ^ 36) prices c.loop-i.i 0 inside c.requires.most in
    let count : get_or counts c.loop-i.i 0 < 2 ^ 16 = search rules in
    let small : get_or counts c.loop-i.i 0 ≤ 2 ^ 16 = omega arith in
    let both : get_or prices c.loop-i.i 0 * get_or counts c.loop-i.i 0 ≤ 2 ^ 36 * 2 ^ 16 = mul-le-mul price small in
    record {
      whole = sym (cost-step prices counts c.loop-i.i c.loop-i.cost (omega arith) c.requires.prices) ∙ c.loop-i.invariant.whole;
      most = omega arith;
    }

pub overflow_add-cost : goal.overflow_add-cost
overflow_add-cost c =
    let prices = c.args.prices.now in
    let counts = c.args.counts.now in
    let inside : c.loop-i.i < length prices = omega arith in
    let price : get_or prices c.loop-i.i 0 ≤ 2 ^ 36 = All-get_or (λ p. p ≤ 2 ^ 36) prices c.loop-i.i 0 inside c.requires.most in
    let count : get_or counts c.loop-i.i 0 < 2 ^ 16 = search rules in
    let small : get_or counts c.loop-i.i 0 ≤ 2 ^ 16 = omega arith in
    let both : get_or prices c.loop-i.i 0 * get_or counts c.loop-i.i 0 ≤ 2 ^ 36 * 2 ^ 16 = mul-le-mul price small in
    search rules
