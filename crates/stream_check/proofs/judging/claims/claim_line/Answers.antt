use Rattle.std.proofs.Common.{◌∙◌, refl, sym, rules}
use Rattle.std.proofs.lemmas.Int.{to_z-of_z}
use mir.Val.{SFits}
use mir.Syntax.{w128}
use Rattle.stream_check.proofs.ClaimCome.{den-there, value-there, choice-there, claimed}
use Rattle.stream_check.proofs.judging.claims.claim_line.Goals as goal

pub choice_in-choice-requires-clause-choice : goal.choice_in-choice-requires-clause-choice
choice_in-choice-requires-clause-choice c = (
  c.requires.some.0.choice,
  choice-there c.args.at.now c.requires.some.0 c.requires.some.1 c.args.line c.requires.due,
  c.requires.some.1.kept.choice,
)

pub number_in-requires-clause-one : goal.number_in-requires-clause-one
number_in-requires-clause-one c = (c.requires.some.0.den, den-there c.args.at.now c.requires.some.0 c.requires.some.1 c.args.line c.requires.due)

pub number_in-requires-2-clause-one : goal.number_in-requires-2-clause-one
number_in-requires-2-clause-one c = (c.requires.some.0.value, value-there c.args.at.now c.requires.some.0 c.requires.some.1 c.args.line c.requires.due)

pub invariant_of-claim : goal.invariant_of-claim
invariant_of-claim c =
    let cert = c.requires.some.0 in
    let is = c.requires.some.1 in
    let den_fits : SFits w128 c.number_in.result = search rules in
    let value_fits : SFits w128 c.number_in-2.result = search rules in
    record {
      shown = claimed c.args.at.now cert is c.args.line c.requires.due _ _ _ c.kept.ensures
          (sym (c.number_in.ensures cert.den (den-there c.args.at.now cert is c.args.line c.requires.due)) ∙ sym (to_z-of_z w128 c.number_in.result den_fits))
          (sym (c.number_in-2.ensures cert.value (value-there c.args.at.now cert is c.args.line c.requires.due)) ∙ sym (to_z-of_z w128 c.number_in-2.result value_fits))
          (sym (c.as_slice.ensures ∙ c.choice_in-choice.ensures.choice cert.choice
          (choice-there c.args.at.now cert is c.args.line c.requires.due)));
    }

pub shown-requires-clause-claim : goal.shown-requires-clause-claim
shown-requires-clause-claim c =
    let den_fits : SFits w128 c.number_in.result = search rules in
    let value_fits : SFits w128 c.number_in-2.result = search rules in
    record {
      book = refl;
      each = λ cert is. record {
        den_is = sym (c.number_in.ensures cert.den (den-there c.args.at.now cert is c.args.line c.requires.due)) ∙ sym (to_z-of_z w128 c.number_in.result den_fits);
        value_is = sym (c.number_in-2.ensures cert.value (value-there c.args.at.now cert is c.args.line c.requires.due))
            ∙ sym (to_z-of_z w128 c.number_in-2.result value_fits);
        choice_is = sym (c.as_slice.ensures ∙ c.choice_in-choice.ensures.choice cert.choice (choice-there c.args.at.now cert is c.args.line c.requires.due));
      };
    }
