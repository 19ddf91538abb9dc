use Rattle.std.proofs.Common.{◌∙◌, length, inl, sym, ap, subst, rules}
use Rattle.std.specs.Prelude.{pos}
use Rattle.std.proofs.lemmas.Bool.{iff_false}
use Rattle.std.proofs.lemmas.Int.{to_z-of_z}
use mir.Val.{SFits}
use mir.Syntax.{w128}
use Rattle.auction_model.specs.Prices.{weight_of}
use Rattle.std.proofs.lemmas.Bool.{false≢true}
use Rattle.stream_check.specs.Moments.{Shows}
use Rattle.stream_check.proofs.RowTests.{count-there, count-next, no-totals, none-of, some-shows, none-holds, rows-done}
use Rattle.stream_check.proofs.judging.rows.rows_line.Goals as goal

pub number_in-requires-clause-one : goal.number_in-requires-clause-one
number_in-requires-clause-one c = (pos (length c.requires.some.0.rows), count-there c.args.at.now c.requires.some.0 c.requires.some.1 c.requires.due)

pub returns-then-not-is_zero : goal.returns-then-not-is_zero
returns-then-not-is_zero c = subst (Shows c.args.at.now) (sym c.of.ensures) (λ cert next is follows. (
  let fits : SFits w128 c.number_in.result = search rules in
      some-shows c.args.at.now cert is c.requires.due next follows (λ none. iff_false c.is_zero.ensures c.if-not-is_zero.true
      (to_z-of_z w128 c.number_in.result fits ∙ c.number_in.ensures (pos (length cert.rows)) (count-there c.args.at.now cert is c.requires.due)
      ∙ ap pos none)),
  λ seen. absurd (false≢true seen),
))

pub last_tests-requires-clause-rows : goal.last_tests-requires-clause-rows
last_tests-requires-clause-rows c =
    let fits : SFits w128 c.number_in.result = search rules in
    record {
      line = inl c.requires.due;
      totals = λ cert is. no-totals c.args.at.now cert is c.requires.due (none-of (length cert.rows)
          (sym (c.number_in.ensures (pos (length cert.rows)) (count-there c.args.at.now cert is c.requires.due))
          ∙ sym (to_z-of_z w128 c.number_in.result fits) ∙ c.is_zero.ensures.0 c.if-not-is_zero.false));
    }

pub returns : goal.returns
returns c = subst (Shows c.args.at.now) (sym c.of-2.ensures) (λ cert next is follows. (
  let at = c.args.at.now in
      let fits : SFits w128 c.number_in.result = search rules in
      let none = none-of (length cert.rows) (sym (c.number_in.ensures (pos (length cert.rows)) (count-there c.args.at.now cert is c.requires.due))
      ∙ sym (to_z-of_z w128 c.number_in.result fits) ∙ c.is_zero.ensures.0 c.if-not-is_zero.false) in
      rows-done at.book.now (weight_of at.weights.now) cert (length cert.rows) next c.last_tests.result
      (count-next c.args.at.now cert is c.requires.due next follows) none (c.last_tests.ensures cert is
      (none-holds c.args.at.now cert is c.requires.due none)),
  λ seen. absurd (false≢true seen),
))
