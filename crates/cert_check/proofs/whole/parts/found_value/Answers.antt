use Rattle.std.proofs.Common.{IsTrue, List, ℕ, sym, ◌∙◌, ap, subst, rules}
use Rattle.std.proofs.lemmas.Int.{to_z-of_z}
use mir.Val.{SFits}
use mir.Syntax.{w128}
use Rattle.auction_model.specs.Book.{market_of, menu_of}
use Rattle.auction_model.specs.Market.{value_of}
use Rattle.auction_model.proofs.BookMarket.{fits-known}
use Rattle.cert_grammar.specs.Certificate.{WithoutValue}
use Rattle.cert_check.proofs.PartLaws.{from-found}
use Rattle.cert_check.proofs.whole.parts.found_value.Goals as goal

pub value_among-requires : goal.value_among-requires
value_among-requires c =
    let whole = sym (from-found c.args.parts.now c.loop-part.part-index c.args.j c.part-item.result c.loop-part-test.true c.part-item.is
    (sym c.loop-part.invariant) c.if-part-j.true) in
    fits-known (menu_of c.args.book.now) c.args.book.now.supply c.numbers.result.now
    (subst (λ (l : List ℕ). IsTrue ((market_of c.args.book.now).allowed l)) (sym c.numbers.ensures)
    (subst (λ (w : WithoutValue). IsTrue ((market_of c.args.book.now).allowed w.choice)) (sym whole) c.requires.allowed))

pub returns-then-part-j : goal.returns-then-part-j
returns-then-part-j c =
    let whole = sym (from-found c.args.parts.now c.loop-part.part-index c.args.j c.part-item.result c.loop-part-test.true c.part-item.is
    (sym c.loop-part.invariant) c.if-part-j.true) in
    let value_fits : SFits w128 c.value_among.result = search rules in
    to_z-of_z w128 c.value_among.result value_fits ∙ c.value_among.ensures.value ∙ ap (λ (l : List ℕ). value_of (market_of c.args.book.now) l) c.numbers.ensures
    ∙ ap (λ (w : WithoutValue). value_of (market_of c.args.book.now) w.choice) whole
