-- The quotients of all by their greatest common divisor; numbers read from bits are themselves.
use Rattle.std.proofs.Common.{◌≡◌, rules, to_z, of_z}
use Rattle.std.proofs.lemmas.Int.{to_z-of_z}
use Rattle.std.specs.Int.{w128}
use Rattle.core_price.specs.Lowest.{IsMultiple}
use Rattle.core_price.proofs.Divisors.{lowest-of}
use Rattle.core_price.proofs.Division.{not-zero}
use Rattle.core_price.proofs.reduce.reduced.Goals as goal

pub quotients-requires-clause-apart : goal.quotients-requires-clause-apart
quotients-requires-clause-apart c =
    let d : to_z w128 (of_z w128 c.greatest_divisor-divisor.result) ≡ c.greatest_divisor-divisor.result =
    to_z-of_z w128 c.greatest_divisor-divisor.result (search rules) in
    rw d (not-zero c.greatest_divisor-divisor.result c.greatest_divisor-divisor.ensures.positive)

pub quotients-requires-clause-divides : goal.quotients-requires-clause-divides
quotients-requires-clause-divides c =
    let d : to_z w128 (of_z w128 c.greatest_divisor-divisor.result) ≡ c.greatest_divisor-divisor.result =
    to_z-of_z w128 c.greatest_divisor-divisor.result (search rules) in
    rw (d, c.items.ensures) c.greatest_divisor-divisor.ensures.divides.at_is

pub quotients-requires-2-clause-divides : goal.quotients-requires-2-clause-divides
quotients-requires-2-clause-divides c =
    let d : to_z w128 (of_z w128 c.greatest_divisor-divisor.result) ≡ c.greatest_divisor-divisor.result =
    to_z-of_z w128 c.greatest_divisor-divisor.result (search rules) in
    rw (d, c.items-2.ensures) c.greatest_divisor-divisor.ensures.divides.first_is

pub quotients-requires-3-clause-divides : goal.quotients-requires-3-clause-divides
quotients-requires-3-clause-divides c =
    let d : to_z w128 (of_z w128 c.greatest_divisor-divisor.result) ≡ c.greatest_divisor-divisor.result =
    to_z-of_z w128 c.greatest_divisor-divisor.result (search rules) in
    rw (d, c.items-3.ensures) c.greatest_divisor-divisor.ensures.divides.second_is

pub returns-clause-same : goal.returns-clause-same
returns-clause-same c =
    let g = c.greatest_divisor-divisor.result in
    let d : to_z w128 (of_z w128 g) ≡ g = to_z-of_z w128 g (search rules) in
    let n : to_z w128 (of_z w128 c.args.near.den) ≡ c.args.near.den = to_z-of_z w128 c.args.near.den (search rules) in
    let q : to_z w128 (of_z w128 c.div_exact.result) ≡ c.div_exact.result = to_z-of_z w128 c.div_exact.result (search rules) in (
      g,
      rw q record {
        positive = c.greatest_divisor-divisor.ensures.positive;
        den_is = rw (d, n) at c.div_exact.ensures;
        at_is = rw (d, c.items.ensures) at c.in_ok-at.ensures;
        first_is = rw (d, c.items-2.ensures) at c.in_ok-first.ensures;
        second_is = rw (d, c.items-3.ensures) at c.in_ok-second.ensures;
      },
    )

pub returns-clause-lowest : goal.returns-clause-lowest
returns-clause-lowest c =
    let g = c.greatest_divisor-divisor.result in
    let p = c.args.near in
    let d : to_z w128 (of_z w128 g) ≡ g = to_z-of_z w128 g (search rules) in
    let n : to_z w128 (of_z w128 c.args.near.den) ≡ c.args.near.den = to_z-of_z w128 c.args.near.den (search rules) in
    let q : to_z w128 (of_z w128 c.div_exact.result) ≡ c.div_exact.result = to_z-of_z w128 c.div_exact.result (search rules) in
    let h : IsMultiple g c.div_exact.result c.in_ok-at.at c.in_ok-first.first c.in_ok-second.second p.den p.at p.first p.second = record {
      positive = c.greatest_divisor-divisor.ensures.positive;
      den_is = rw (d, n) at c.div_exact.ensures;
      at_is = rw (d, c.items.ensures) at c.in_ok-at.ensures;
      first_is = rw (d, c.items-2.ensures) at c.in_ok-first.ensures;
      second_is = rw (d, c.items-3.ensures) at c.in_ok-second.ensures;
    } in
    rw q (lowest-of c.div_exact.result c.in_ok-at.at c.in_ok-first.first c.in_ok-second.second p.den p.at p.first p.second g h
    c.greatest_divisor-divisor.ensures.greatest)
