use Rattle.std.proofs.Common.{◌∙◌, sym, rules}
use Rattle.std.proofs.lemmas.Int.{to_z-of_z}
use mir.Val.{SFits}
use mir.Syntax.{w128}
use Rattle.stream_check.proofs.facts.facts_in.Goals as goal

pub read_choice-requires-clause-choice : goal.read_choice-requires-clause-choice
read_choice-requires-clause-choice c = let (cert, all) = c.requires.some in (cert.choice, all.choice, all.of.certificate.choice)

pub singles_in-requires-clause-some : goal.singles_in-requires-clause-some
singles_in-requires-clause-some c = let (cert, all) = c.requires.some in (cert, all, sym (c.numbers.ensures ∙ c.in_ok-choice.ensures cert.choice all.choice))

pub returns : goal.returns
returns c = λ cert all.
    let choice_is = c.in_ok-choice.ensures cert.choice all.choice in
    let den_fits : SFits w128 c.number_in.result = search rules in
    let value_fits : SFits w128 c.number_in-2.result = search rules in
    record {
      of = all.of;
      den = to_z-of_z w128 c.number_in.result den_fits ∙ c.number_in.ensures cert.den all.den;
      value = to_z-of_z w128 c.number_in-2.result value_fits ∙ c.number_in-2.ensures cert.value all.value;
      choice = choice_is;
      pay = c.from_vec.ensures ∙ c.in_ok-pay.ensures.items ∙ c.numbers_in.ensures ∙ all.pay;
      singles = c.in_ok-singles.ensures cert all (sym (c.numbers.ensures ∙ choice_is));
    }
