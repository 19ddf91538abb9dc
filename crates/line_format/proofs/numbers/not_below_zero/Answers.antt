use Rattle.std.proofs.Common.{◌≡◌, arith, pos, to_z}
use Rattle.std.specs.Int.{w128}
use Rattle.std.proofs.lemmas.Int.{ints}
use Rattle.line_format.proofs.Signs.{plain_field}
use Rattle.line_format.proofs.numbers.not_below_zero.Goals as goal

pub returns-in-Within : goal.returns-in-Within
returns-in-Within c =
    let small = c.in-Within.ensures.1 in
    let same : to_z w128 c.in-Within.n ≡ pos c.in-Within.n = omega (arith, ints, small) in
    rw same (plain_field c.args.text.now c.in-Within.n c.in-Within.stop c.in-Within.ensures.0, small)

pub returns-in-Beyond : goal.returns-in-Beyond
returns-in-Beyond c = (
  pos c.in-Beyond.ensures.0,
  plain_field c.args.text.now c.in-Beyond.ensures.0 c.in-Beyond.stop c.in-Beyond.ensures.1,
  c.in-Beyond.ensures.2,
)
