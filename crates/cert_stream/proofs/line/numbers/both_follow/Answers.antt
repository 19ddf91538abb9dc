use Rattle.std.proofs.Common.{◌≡◌, ◌≤◌, ◌<◌, length, arith}
use Rattle.std.proofs.lemmas.Int.{ints}
use Rattle.cert_stream.proofs.Following.{two_next, two_follow, two_number}
use Rattle.cert_stream.proofs.line.numbers.both_follow.Goals as goal

pub returns-then-count-gt1 : goal.returns-then-count-gt1
returns-then-count-gt1 c = λ ns z beyond keeps begins kept. (
  λ yes. cc yes,
  λ next. absurd
      (omega (arith, (two_next c.args.first c.args.second ns z next).0, keeps.many, c.if-count-gt1.true)),
)

pub returns : goal.returns
returns c = λ ns z beyond keeps begins kept.
    let m = c.args.first in
    let n = c.args.second in
    let number = c.first_or_second-number.result in
    let few : length ns ≤ 1 = omega (arith, keeps.many, c.if-count-gt1.false) in
    let none : length ns ≡ 0 → c.first_or_second-number.result ≡ c.args.first = λ e. c.first_or_second-number.ensures.first (omega (arith, e, keeps.many)) in
    let some : 0 < length ns → c.first_or_second-number.result ≡ c.args.second = λ lt. c.first_or_second-number.ensures.second
    (omega (arith, lt, keeps.many)) in
    let asked = c.is_between.ensures z kept in (
      λ yes. let two = asked.0 yes in two_follow m n number ns z begins few none some (omega (arith, ints, two.0, two.1)),
      λ next. let is = two_number m n number ns z none some next in asked.1 (omega (arith, ints, is), omega (arith, ints, is)),
    )
