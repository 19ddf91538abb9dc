-- The three lists one after the other; numbers read from bits are themselves.
use Rattle.std.proofs.Common.{◌≡◌, rules, to_z, of_z}
use Rattle.std.proofs.lemmas.Int.{to_z-of_z}
use Rattle.std.specs.Int.{w128}
use Rattle.core_price.proofs.Divisors.{IsGreatest, point-divided, point-greatest}
use Rattle.core_price.proofs.reduce.greatest_divisor.Goals as goal

pub returns-clause-divides : goal.returns-clause-divides
returns-clause-divides c =
    let p = c.args.near.now in
    let one = c.common_divisor-divisor.result in
    let two = c.common_divisor-divisor-2.result in
    let all = c.common_divisor.result in
    let n : to_z w128 (of_z w128 c.args.near.now.den) ≡ c.args.near.now.den = to_z-of_z w128 c.args.near.now.den (search rules) in
    let d : to_z w128 (of_z w128 one) ≡ one = to_z-of_z w128 one (search rules) in
    let e : to_z w128 (of_z w128 two) ≡ two = to_z-of_z w128 two (search rules) in
    let a : IsGreatest p.den p.at one = record {
      start_is = rw n at c.common_divisor-divisor.ensures.start;
      each =
          rw c.items.ensures at c.common_divisor-divisor.ensures.numbers;
      greatest = rw (n, c.items.ensures) at c.common_divisor-divisor.ensures.greatest;
    } in
    let b : IsGreatest one p.first two = record {
      start_is = rw d at c.common_divisor-divisor-2.ensures.start;
      each =
          rw c.items-2.ensures at c.common_divisor-divisor-2.ensures.numbers;
      greatest = rw (d, c.items-2.ensures)
          at c.common_divisor-divisor-2.ensures.greatest;
    } in
    let r : to_z w128 (of_z w128 all) ≡ all = to_z-of_z w128 all (search rules) in
    let f : IsGreatest two p.second all = record {
      start_is = rw e at c.common_divisor.ensures.start;
      each =
          rw c.items-3.ensures at c.common_divisor.ensures.numbers;
      greatest = rw (e, c.items-3.ensures) at c.common_divisor.ensures.greatest;
    } in
    rw r (point-divided p.den p.at p.first p.second one two all a b f)

pub returns-clause-greatest : goal.returns-clause-greatest
returns-clause-greatest c =
    let p = c.args.near.now in
    let one = c.common_divisor-divisor.result in
    let two = c.common_divisor-divisor-2.result in
    let all = c.common_divisor.result in
    let n : to_z w128 (of_z w128 c.args.near.now.den) ≡ c.args.near.now.den = to_z-of_z w128 c.args.near.now.den (search rules) in
    let d : to_z w128 (of_z w128 one) ≡ one = to_z-of_z w128 one (search rules) in
    let e : to_z w128 (of_z w128 two) ≡ two = to_z-of_z w128 two (search rules) in
    let a : IsGreatest p.den p.at one = record {
      start_is = rw n at c.common_divisor-divisor.ensures.start;
      each =
          rw c.items.ensures at c.common_divisor-divisor.ensures.numbers;
      greatest = rw (n, c.items.ensures) at c.common_divisor-divisor.ensures.greatest;
    } in
    let b : IsGreatest one p.first two = record {
      start_is = rw d at c.common_divisor-divisor-2.ensures.start;
      each =
          rw c.items-2.ensures at c.common_divisor-divisor-2.ensures.numbers;
      greatest = rw (d, c.items-2.ensures)
          at c.common_divisor-divisor-2.ensures.greatest;
    } in
    let r : to_z w128 (of_z w128 all) ≡ all = to_z-of_z w128 all (search rules) in
    let f : IsGreatest two p.second all = record {
      start_is = rw e at c.common_divisor.ensures.start;
      each =
          rw c.items-3.ensures at c.common_divisor.ensures.numbers;
      greatest = rw (e, c.items-3.ensures) at c.common_divisor.ensures.greatest;
    } in
    rw r (point-greatest p.den p.at p.first p.second one two all a b f)
