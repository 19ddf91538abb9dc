use Rattle.std.proofs.Common.{◌∙◌, sym, subst, refl, rules}
use Rattle.std.proofs.lemmas.Int.{to_z-of_z}
use mir.Val.{SFits}
use mir.Syntax.{w128}
use Rattle.auction_model.specs.Prices.{weight_of}
use Rattle.cert_check.proofs.VerdictLaws.{asks-C2}
use Rattle.std.proofs.lemmas.Bool.{false≢true}
use Rattle.stream_check.specs.Moments.{Shows}
use Rattle.stream_check.proofs.HeadCome.{value-known, choice-there, choice-holds, choice-shows}
use Rattle.stream_check.proofs.judging.heads.choice_line.Goals as goal

pub number_in-value-requires-clause-one : goal.number_in-value-requires-clause-one
number_in-value-requires-clause-one c = (c.requires.some.0.value, value-known c.args.at.now c.requires.some.0 c.requires.some.1 c.requires.due)

pub returns : goal.returns
returns c = subst (Shows c.args.at.now) (sym c.of.ensures) (λ cert next is follows. (
  let at = c.args.at.now in
      let value_fits : SFits w128 c.number_in-value.result = search rules in
      let value_is = sym (c.number_in-value.ensures cert.value (value-known c.args.at.now cert is c.requires.due))
      ∙ sym (to_z-of_z w128 c.number_in-value.result value_fits) in
      let choice_is = sym (c.as_slice.ensures ∙ c.choice_in-choice.ensures.choice cert.choice (choice-there c.args.at.now cert is c.requires.due)) in
      let first = asks-C2 at.book.now (weight_of at.weights.now) cert 2 c.choice_test.result refl (c.choice_test.ensures cert choice_is value_is) in
      choice-shows c.args.at.now cert is c.requires.due next c.failure_of.result follows
      (c.failure_of.ensures.judged at.book.now (weight_of at.weights.now) cert (choice-holds c.args.at.now cert is c.requires.due) first),
  λ seen. absurd (false≢true seen),
))

pub choice_in-choice-requires-clause-choice : goal.choice_in-choice-requires-clause-choice
choice_in-choice-requires-clause-choice c = (
  c.requires.some.0.choice,
  choice-there c.args.at.now c.requires.some.0 c.requires.some.1 c.requires.due,
  c.requires.some.1.kept.choice,
)
