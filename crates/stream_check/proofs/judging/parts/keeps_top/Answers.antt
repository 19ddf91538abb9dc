use Rattle.std.proofs.Common.{◌≡◌, ◌∙◌, ◌-◌, ℕ, [], refl, sym, ap, take, get_or, pos, subst, List, rules}
use Rattle.std.specs.Prelude.{ℤ, IsTrue, slice_index_or}
use Rattle.std.proofs.lemmas.Int.{to_z-of_z}
use mir.Val.{SFits, to_z, of_z}
use mir.Syntax.{w128}
use Rattle.auction_model.specs.Market.{value_of}
use Rattle.auction_model.specs.Place.{states_of}
use Rattle.auction_model.specs.Table.{entry_at}
use Rattle.cert_soundness.specs.Tests.{full, states}
use Rattle.auction_model.specs.Book.{market_of, menu_of}
use Rattle.auction_model.proofs.BookMarket.{fits-known}
use Rattle.cert_grammar.specs.Certificate.{part_of}
use Rattle.stream_check.proofs.PartCome.{lines-named, lines-inside, lines-choice, lines-kept, lines-part, lines-there, tops}
use Rattle.stream_check.proofs.judging.parts.keeps_top.Goals as goal

pub returns-then-k-ne0 : goal.returns-then-k-ne0
returns-then-k-ne0 c = λ cert is. (λ t first. absurd (c.if-k-ne0.true first), λ low. refl)

pub choice_in-choice-requires-clause-due : goal.choice_in-choice-requires-clause-due
choice_in-choice-requires-clause-due c = lines-named c.args.at.now c.requires.some.0 c.requires.some.1 c.args.j c.args.k c.requires.due

pub choice_in-choice-requires-clause-choice : goal.choice_in-choice-requires-clause-choice
choice_in-choice-requires-clause-choice c =
    let cert = c.requires.some.0 in
    let is = c.requires.some.1 in (
      (part_of cert.withouts c.args.j).choice,
      lines-choice c.args.at.now cert is c.args.j c.args.k c.requires.due,
      lines-kept c.args.at.now cert is c.args.j c.args.k c.requires.due,
    )

pub numbers_in-line-requires-clause-due : goal.numbers_in-line-requires-clause-due
numbers_in-line-requires-clause-due c = (
  lines-named c.args.at.now c.requires.some.0 c.requires.some.1 c.args.j c.args.k c.requires.due,
  lines-inside c.args.at.now c.requires.some.0 c.requires.some.1 c.args.j c.args.k c.requires.due,
)

pub value_among-requires : goal.value_among-requires
value_among-requires c =
    let at = c.args.at.now in
    let cert = c.requires.some.0 in
    let is = c.requires.some.1 in
    let choice_is = c.as_slice.ensures ∙ c.choice_in-choice.ensures.choice
    (part_of cert.withouts c.args.j).choice (lines-choice c.args.at.now cert is c.args.j c.args.k c.requires.due) in
    fits-known (menu_of at.book.now) at.book.now.supply _ (subst (λ (l : List ℕ). IsTrue ((market_of at.book.now).allowed l)) (sym choice_is)
    (lines-part c.args.at.now cert is c.args.j c.args.k c.requires.due).allowed)

pub returns : goal.returns
returns c = λ cert is.
    let at = c.args.at.now in
    let value_fits : SFits w128 c.value_among.result = search rules in
    let entry_fits : SFits w128 (get_or c.numbers_in-line.result.now (c.states.result - 1) (pos 0)) = search rules in
    let same : c.states.result ≡ states at.book.now = c.states.ensures.states ∙ ap states_of c.supply.ensures.supply in
    let line_is = c.numbers_in-line.ensures ∙ lines-there c.args.at.now cert is c.args.j c.args.k c.requires.due in
    let entry : get_or c.numbers_in-line.result.now (c.states.result - 1) (pos 0) ≡ entry_at (part_of cert.withouts c.args.j).table 0 (full at.book.now) =
    ap (λ (l : List ℤ). get_or l (c.states.result - 1) (pos 0)) (line_is ∙ ap (λ (n : ℕ). slice_index_or (part_of cert.withouts c.args.j).table n [])
    c.if-k-ne0.false) ∙ ap (λ (n : ℕ). get_or (slice_index_or (part_of cert.withouts c.args.j).table 0 []) (n - 1) (pos 0)) same in
    let choice_is = c.as_slice.ensures ∙ c.choice_in-choice.ensures.choice
    (part_of cert.withouts c.args.j).choice (lines-choice c.args.at.now cert is c.args.j c.args.k c.requires.due) in
    let value : to_z w128 (of_z w128 c.value_among.result) ≡ value_of (market_of at.book.now) (part_of cert.withouts c.args.j).choice =
    to_z-of_z w128 c.value_among.result value_fits ∙ c.value_among.ensures.value ∙ ap (λ (l : List ℕ). value_of (market_of at.book.now) l) choice_is in
    tops _ _ _ _ c.is_at_most.result c.args.k c.if-k-ne0.false (to_z-of_z w128 (get_or c.numbers_in-line.result.now (c.states.result - 1) (pos 0)) entry_fits
    ∙ entry) value c.is_at_most.ensures
