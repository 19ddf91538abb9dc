use Rattle.std.proofs.Common.{◌∙◌, ◌<◌, ◌≤◌, ℕ, List, take, pos, sym, ap, not, subst, rules}
use Rattle.std.specs.Prelude.{IsTrue}
use Rattle.std.proofs.lemmas.Bool.{cond-true, cond-false, eq-eqb}
use Rattle.std.proofs.lemmas.Int.{to_z-of_z}
use mir.Val.{SFits}
use mir.Syntax.{w128}
use Rattle.auction_model.specs.Book.{Book, market_of, menu_of}
use Rattle.cert_soundness.specs.Tests.{bidders_of}
use Rattle.auction_model.specs.Market.{number_of, uses, value_of}
use Rattle.auction_model.proofs.BookMarket.{fits-known}
use Rattle.cert_grammar.specs.Certificate.{part_of}
use Rattle.cert_check.proofs.PartLaws.{wins-some}
use Rattle.stream_check.proofs.ClaimCome.{ends-claimed, part-known, part-whole, parts-hold}
use Rattle.stream_check.proofs.judging.rows.part_value.Goals as goal

pub number-requires : goal.number-requires
number-requires c = subst (λ (b : Book). (0 < c.args.j) × (c.args.j ≤ bidders_of b)) (sym c.requires.claim.book) c.requires.bidder

pub returns-then-number-eq0 : goal.returns-then-number-eq0
returns-then-number-eq0 c = λ cert is.
    let number_is = c.number.ensures ∙ ap (λ (l : List ℕ). number_of l c.args.j) (sym (c.requires.claim.each cert is).choice_is) in
    sym (cond-false (uses cert.choice c.args.j) (value_of (market_of c.args.at.now.book.now) (part_of cert.withouts c.args.j).choice) (pos 0)
    (ap not (eq-eqb (number_of cert.choice c.args.j) 0 (sym number_is ∙ c.if-number-eq0.true))))

pub choice_in-choice-requires-clause-choice : goal.choice_in-choice-requires-clause-choice
choice_in-choice-requires-clause-choice c =
    let cert = c.requires.some.0 in
    let is = c.requires.some.1 in
    let number_is = c.number.ensures ∙ ap (λ (l : List ℕ). number_of l c.args.j) (sym (c.requires.claim.each cert is).choice_is) in
    let wins = wins-some cert.choice c.args.j c.number.result number_is c.if-number-eq0.false in (
      (part_of cert.withouts c.args.j).choice,
      part-known c.args.at.now cert is c.requires.rows.line c.args.j c.requires.bidder.0 c.requires.bidder.1 wins,
      part-whole c.args.at.now cert is c.args.j c.requires.bidder.0 c.requires.bidder.1 wins,
    )

pub value_among-requires : goal.value_among-requires
value_among-requires c =
    let at = c.args.at.now in
    let cert = c.requires.some.0 in
    let is = c.requires.some.1 in
    let number_is = c.number.ensures ∙ ap (λ (l : List ℕ). number_of l c.args.j) (sym (c.requires.claim.each cert is).choice_is) in
    let wins = wins-some cert.choice c.args.j c.number.result number_is c.if-number-eq0.false in
    let choice_is = c.as_slice.ensures ∙ c.choice_in-choice.ensures.choice
    (part_of cert.withouts c.args.j).choice (part-known c.args.at.now cert is c.requires.rows.line c.args.j c.requires.bidder.0 c.requires.bidder.1 wins) in
    fits-known (menu_of at.book.now) at.book.now.supply _ (subst (λ (l : List ℕ). IsTrue ((market_of at.book.now).allowed l)) (sym choice_is)
    ((parts-hold c.args.at.now cert is (ends-claimed c.args.at.now.due c.requires.rows.line).0 (ends-claimed c.args.at.now.due c.requires.rows.line).1 c.args.j).part c.requires.bidder.0 c.requires.bidder.1
    wins).allowed)

pub returns : goal.returns
returns c = λ cert is.
    let value_fits : SFits w128 c.value_among.result = search rules in
    let number_is = c.number.ensures ∙ ap (λ (l : List ℕ). number_of l c.args.j) (sym (c.requires.claim.each cert is).choice_is) in
    let wins = wins-some cert.choice c.args.j c.number.result number_is c.if-number-eq0.false in
    let choice_is = c.as_slice.ensures ∙ c.choice_in-choice.ensures.choice
    (part_of cert.withouts c.args.j).choice (part-known c.args.at.now cert is c.requires.rows.line c.args.j c.requires.bidder.0 c.requires.bidder.1 wins) in
    to_z-of_z w128 c.value_among.result value_fits ∙ c.value_among.ensures.value ∙ ap (λ (l : List ℕ). value_of (market_of c.args.at.now.book.now) l) choice_is
    ∙ sym (cond-true (uses cert.choice c.args.j) (value_of (market_of c.args.at.now.book.now) (part_of cert.withouts c.args.j).choice) (pos 0) wins)
