use Rattle.std.proofs.Common.{◌≡◌, ◌∙◌, ◌≤◌, ℕ, List, sym, ap, subst, to_z, of_z, arith, rules}
use Rattle.std.specs.Prelude.{ℤ, IsTrue, ◌-ℤ◌, ◌+ℤ◌, length}
use Rattle.std.proofs.lemmas.Int.{to_z-of_z}
use mir.Val.{SFits}
use mir.Syntax.{w128}
use Rattle.auction_model.specs.Book.{bids_of, market_of, menu_of, net_of}
use Rattle.auction_model.specs.Market.{value_of}
use Rattle.auction_model.specs.Menu.{is_known_after}
use Rattle.auction_model.proofs.BookMarket.{fits-known}
use Rattle.cert_check.proofs.PartLaws.{wins-some}
use Rattle.cert_grammar.specs.CertText.{InRange}
use Rattle.cert_grammar.specs.Certificate.{part_of}
use Rattle.cert_soundness.specs.Tests.{bidders_of, states}
use Rattle.choices.specs.declared.chooser.Single.{Single}
use Rattle.stream_check.proofs.NextLaws.{part-choice}
use Rattle.stream_check.proofs.facts.single_in.Goals as goal

pub read_choice-requires-clause-choice : goal.read_choice-requires-clause-choice
read_choice-requires-clause-choice c =
    let (cert, all, number_is) = c.requires.some in
    let wins = wins-some cert.choice c.args.j c.args.number (sym number_is) (λ none. omega (arith, none, c.requires.wins)) in (
      (part_of cert.withouts c.args.j).choice,
      all.parts c.args.j c.requires.bidder.0 c.requires.bidder.1 wins,
      part-choice (bidders_of c.args.book.now) (states c.args.book.now) cert all.of.certificate c.args.j c.requires.bidder.0 c.requires.bidder.1 wins,
    )

pub number_in-value-requires-clause-one : goal.number_in-value-requires-clause-one
number_in-value-requires-clause-one c =
    let (cert, all, number_is) = c.requires.some in
    (cert.value, all.value)

pub price-requires-clause-without : goal.price-requires-clause-without
price-requires-clause-without c =
    let (cert, all, number_is) = c.requires.some in
    let book = c.args.book.now in
    let wins = wins-some cert.choice c.args.j c.args.number (sym number_is) (λ none. omega (arith, none, c.requires.wins)) in
    let part = (part_of cert.withouts c.args.j).choice in
    let choice_is = c.numbers.ensures ∙ c.in_ok-choice.ensures part (all.parts c.args.j c.requires.bidder.0 c.requires.bidder.1 wins) in
    subst (λ (l : List ℕ). IsTrue (is_known_after (menu_of c.args.book.now) 0 l)) (sym choice_is)
    (fits-known (menu_of c.args.book.now) c.args.book.now.supply part ((all.of.parts c.args.j).part c.requires.bidder.0 c.requires.bidder.1 wins).allowed)

pub price-requires-clause-value : goal.price-requires-clause-value
price-requires-clause-value c =
    let (cert, all, number_is) = c.requires.some in
    let value_fits : SFits w128 c.number_in-value.result = search rules in
    subst InRange (sym (to_z-of_z w128 c.number_in-value.result value_fits ∙ c.number_in-value.ensures cert.value all.value)) all.of.certificate.value

pub price-requires-clause-bid : goal.price-requires-clause-bid
price-requires-clause-bid c =
    let (cert, all, number_is) = c.requires.some in
    subst (λ (n : ℕ). n ≤ length (bids_of c.args.book.now c.args.j)) number_is ((all.of.choice c.args.j).known c.requires.bidder.0 c.requires.bidder.1)

-- a winner alone, with an equal price and an equal choice
same : (j : ℕ) (x y : ℤ) (d e : List ℕ) → x ≡ y → d ≡ e → ◌≡◌ {A = Single} (record { winner = j; price = x; choice = d })
    (record { winner = j; price = y; choice = e })
same j x y d e price choice = ap (λ (z : ℤ). record { winner = j; price = z; choice = d }) price ∙ ap
    (λ (l : List ℕ). record { winner = j; price = y; choice = l }) choice

pub returns : goal.returns
returns c = λ cert all number_is.
    let book = c.args.book.now in
    let j = c.args.j in
    let wins = wins-some cert.choice c.args.j c.args.number (sym number_is) (λ none. omega (arith, none, c.requires.wins)) in
    let part = (part_of cert.withouts c.args.j).choice in
    let there = c.in_ok-choice.ensures part (all.parts c.args.j c.requires.bidder.0 c.requires.bidder.1 wins) in
    let value_fits : SFits w128 c.number_in-value.result = search rules in
    let price_fits : SFits w128 c.price.result = search rules in
    let value_is = to_z-of_z w128 c.number_in-value.result value_fits ∙ c.number_in-value.ensures cert.value all.value in
    same c.args.j _ _ c.in_ok-choice.choice part
    (to_z-of_z w128 c.price.result price_fits ∙ c.price.ensures
    ∙ ap (λ (l : List ℕ). (value_of (market_of c.args.book.now) l -ℤ to_z w128 (of_z w128 c.number_in-value.result)) +ℤ net_of c.args.book.now c.args.j
    c.args.number) (c.numbers.ensures ∙ there)
    ∙ ap (λ (z : ℤ). (value_of (market_of c.args.book.now) part -ℤ z) +ℤ net_of c.args.book.now c.args.j c.args.number) value_is
    ∙ ap (λ (n : ℕ). (value_of (market_of c.args.book.now) part -ℤ cert.value) +ℤ net_of c.args.book.now c.args.j n) (sym number_is))
    there
