use Rattle.std.proofs.Common.{◌∙◌, sym, subst, refl, rules}
use Rattle.std.proofs.lemmas.Int.{to_z-of_z}
use mir.Val.{SFits}
use mir.Syntax.{w128}
use Rattle.auction_model.specs.Prices.{weight_of}
use Rattle.cert_check.proofs.VerdictLaws.{asks-C1}
use Rattle.std.proofs.lemmas.Bool.{false≢true}
use Rattle.stream_check.specs.Moments.{Shows}
use Rattle.stream_check.proofs.HeadCome.{den-there, value-there, value-holds, value-shows}
use Rattle.stream_check.proofs.judging.heads.value_line.Goals as goal

pub number_in-den-requires-clause-one : goal.number_in-den-requires-clause-one
number_in-den-requires-clause-one c = (c.requires.some.0.den, den-there c.args.at.now c.requires.some.0 c.requires.some.1 c.requires.due)

pub number_in-value-requires-clause-one : goal.number_in-value-requires-clause-one
number_in-value-requires-clause-one c = (c.requires.some.0.value, value-there c.args.at.now c.requires.some.0 c.requires.some.1 c.requires.due)

pub returns : goal.returns
returns c = subst (Shows c.args.at.now) (sym c.of.ensures) (λ cert next is follows. (
  let at = c.args.at.now in
      let den_fits : SFits w128 c.number_in-den.result = search rules in
      let value_fits : SFits w128 c.number_in-value.result = search rules in
      let den_is = sym (c.number_in-den.ensures cert.den (den-there c.args.at.now cert is c.requires.due))
      ∙ sym (to_z-of_z w128 c.number_in-den.result den_fits) in
      let value_is = sym (c.number_in-value.ensures cert.value (value-there c.args.at.now cert is c.requires.due))
      ∙ sym (to_z-of_z w128 c.number_in-value.result value_fits) in
      let first = asks-C1 at.book.now (weight_of at.weights.now) cert 1 c.sizes_test.result refl (c.sizes_test.ensures cert den_is value_is) in
      value-shows c.args.at.now cert is c.requires.due next c.failure_of.result follows
      (c.failure_of.ensures.judged at.book.now (weight_of at.weights.now) cert (value-holds c.args.at.now cert is c.requires.due) first),
  λ seen. absurd (false≢true seen),
))
