use Rattle.std.proofs.Common.{◌≡◌, ◌∙◌, ◌-◌, ◌<◌, ◌^◌, ℕ, List, [], length, get_or, take, pos, sym, ap, subst, arith, rules}
use Rattle.std.specs.Prelude.{ℤ, IsTrue, slice_index_or, unsigned_abs}
use Rattle.std.proofs.lemmas.Int.{to_z-of_z}
use mir.Val.{SFits}
use mir.Syntax.{w128}
use Rattle.auction_model.specs.Book.{market_of}
use Rattle.auction_model.specs.Place.{states_of}
use Rattle.auction_model.specs.Prices.{weight_of}
use Rattle.auction_model.specs.Table.{entry_at}
use Rattle.cert_soundness.specs.Tests.{full, states}
use Rattle.stream_check.proofs.KeepsCome.{keeps-top, keeps-none, value-there, choice-there, line-there, line-long, line-small, choice-allowed}
use Rattle.stream_check.proofs.TableCome.{line-inside}
use Rattle.cert_stream.specs.declared.due.Table.TheVariants.{Head}
use Rattle.stream_check.proofs.judging.tables.keeps_value.Goals as goal

pub number_in-value-requires-clause-one : goal.number_in-value-requires-clause-one
number_in-value-requires-clause-one c = (c.requires.some.0.value, value-there c.args.at.now c.requires.some.0 c.requires.some.1 c.args.k c.requires.due)

pub numbers_in-line-requires-clause-due : goal.numbers_in-line-requires-clause-due
numbers_in-line-requires-clause-due c = (tt, line-inside c.args.at.now c.requires.some.0 c.requires.some.1 Head c.args.k c.requires.due)

pub choice_in-choice-requires-clause-choice : goal.choice_in-choice-requires-clause-choice
choice_in-choice-requires-clause-choice c = (
  c.requires.some.0.choice,
  choice-there c.args.at.now c.requires.some.0 c.requires.some.1 c.args.k c.requires.due,
  c.requires.some.1.kept.choice,
)

pub none_earlier-requires-clause-allowed : goal.none_earlier-requires-clause-allowed
none_earlier-requires-clause-allowed c =
    let cert = c.requires.some.0 in
    let is = c.requires.some.1 in
    let choice_is = c.as_slice.ensures ∙ c.choice_in-choice.ensures.choice cert.choice
    (choice-there c.args.at.now cert is c.args.k c.requires.due) in
    subst (λ (l : List ℕ). IsTrue ((market_of c.args.at.now.book.now).allowed l)) (sym choice_is) (choice-allowed c.args.at.now cert is c.args.k c.requires.due)

pub none_earlier-requires-clause-value : goal.none_earlier-requires-clause-value
none_earlier-requires-clause-value c =
    let value_fits : SFits w128 c.number_in-value.result = search rules in
    let own = c.requires.some.1.kept.value in
    let is = c.number_in-value.ensures c.requires.some.0.value (value-there c.args.at.now c.requires.some.0 c.requires.some.1 c.args.k c.requires.due) in
    rw (to_z-of_z w128 c.number_in-value.result value_fits, is) own

pub none_earlier-requires-clause-line : goal.none_earlier-requires-clause-line
none_earlier-requires-clause-line c = ap (λ (l : List ℤ). length l) (c.numbers_in-line.ensures ∙ line-there c.args.at.now c.requires.some.0 c.requires.some.1
    c.args.k c.requires.due) ∙ line-long c.args.at.now c.requires.some.0 c.requires.some.1 c.args.k c.requires.due

pub none_earlier-requires-clause-sizes : goal.none_earlier-requires-clause-sizes
none_earlier-requires-clause-sizes c = λ s.
    subst (λ (l : List ℤ). unsigned_abs (slice_index_or l s (pos 0)) < 2 ^ 120) (sym
    (c.numbers_in-line.ensures ∙ line-there c.args.at.now c.requires.some.0 c.requires.some.1 c.args.k c.requires.due))
    (line-small c.args.at.now c.requires.some.0 c.requires.some.1 c.args.k c.requires.due s)

pub none_earlier-requires-clause-bidder : goal.none_earlier-requires-clause-bidder
none_earlier-requires-clause-bidder c = (
  omega (arith, c.if-k-eq0.false),
  line-inside c.args.at.now c.requires.some.0 c.requires.some.1 Head c.args.k
      c.requires.due,
)

pub returns-then-k-eq0 : goal.returns-then-k-eq0
returns-then-k-eq0 c = λ cert is.
    let at = c.args.at.now in
    let value_fits : SFits w128 c.number_in-value.result = search rules in
    let entry_fits : SFits w128 (get_or c.numbers_in-line.result.now (c.states.result - 1) (pos 0)) = search rules in
    let same : c.states.result ≡ states at.book.now = c.states.ensures.states ∙ ap states_of c.supply.ensures.supply in
    let line_is = c.numbers_in-line.ensures ∙ line-there c.args.at.now cert is c.args.k c.requires.due in
    let entry : get_or c.numbers_in-line.result.now (c.states.result - 1) (pos 0) ≡ entry_at cert.table 0 (full at.book.now) =
    ap (λ (l : List ℤ). get_or l (c.states.result - 1) (pos 0)) (line_is ∙ ap (λ (n : ℕ). slice_index_or cert.table n []) c.if-k-eq0.true)
    ∙ ap (λ (n : ℕ). get_or (slice_index_or cert.table 0 []) (n - 1) (pos 0)) same in
    keeps-top at.book.now (weight_of at.weights.now) cert c.args.k _ _ c.is_at_most.result c.if-k-eq0.true
    (to_z-of_z w128 (get_or c.numbers_in-line.result.now (c.states.result - 1) (pos 0)) entry_fits ∙ entry)
    (to_z-of_z w128 c.number_in-value.result value_fits ∙ c.number_in-value.ensures cert.value (value-there c.args.at.now cert is c.args.k c.requires.due))
    c.is_at_most.ensures

pub returns : goal.returns
returns c = λ cert is.
    let at = c.args.at.now in
    let value_fits : SFits w128 c.number_in-value.result = search rules in
    let value_is = sym (c.number_in-value.ensures cert.value (value-there c.args.at.now cert is c.args.k c.requires.due))
    ∙ sym (to_z-of_z w128 c.number_in-value.result value_fits) in
    let choice_is = sym (c.as_slice.ensures ∙ c.choice_in-choice.ensures.choice cert.choice (choice-there c.args.at.now cert is c.args.k c.requires.due)) in
    let line_is = sym (c.numbers_in-line.ensures ∙ line-there c.args.at.now cert is c.args.k c.requires.due) in
    keeps-none at.book.now (weight_of at.weights.now) cert c.args.k c.none_earlier.result (omega (arith, c.if-k-eq0.false))
    (line-inside c.args.at.now cert is Head c.args.k c.requires.due) (c.none_earlier.ensures cert choice_is value_is line_is)
