use Rattle.std.proofs.Common.{◌∙◌, sym, subst, ap, rules, arith, refl, replicate, pos, List, ℕ, IsTrue}
use Rattle.std.proofs.lemmas.Bool.{false≢true}
use Rattle.std.proofs.lemmas.Int.{to_z-of_z}
use Rattle.auction_model.specs.Book.{market_of, menu_of, net_of}
use Rattle.auction_model.specs.Market.{number_of, value_of}
use Rattle.auction_model.specs.Menu.{without}
use Rattle.auction_model.proofs.BookMarket.{fits-known}
use Rattle.cert_text.specs.Parts.{without_value}
use Rattle.table_check.specs.Worths.{worth_with}
use Rattle.cert_check.proofs.PartLaws.{part-answer}
use Rattle.cert_check.proofs.Worths.{plain-worth, plain-small, table-same}
use mir.Val.{SFits, to_z, of_z}
use mir.Syntax.{w128}
use Rattle.cert_check.proofs.whole.parts.shows_best.Goals as goal

pub value_among-most-requires : goal.value_among-most-requires
value_among-most-requires c = fits-known (menu_of c.args.book.now) c.args.book.now.supply c.numbers-choice.result.now
    (c.is_allowed_without.ensures.0 c.if-not-is_allowed_without.false).0

pub returns-then-not-is_allowed_without : goal.returns-then-not-is_allowed_without
returns-then-not-is_allowed_without c = (
  λ t. absurd (false≢true t),
  λ part. absurd (false≢true (sym c.if-not-is_allowed_without.true
      ∙ c.is_allowed_without.ensures.1 (
        subst (λ (l : List ℕ). IsTrue ((market_of c.args.book.now).allowed l)) (sym c.numbers-choice.ensures) part.allowed,
        ap (λ (l : List ℕ). number_of l c.args.j) c.numbers-choice.ensures ∙ part.unused,
      ))),
)

pub invariant_of-offers : goal.invariant_of-offers
invariant_of-offers c = record { sizes = plain-small c.args.book.now (replicate 16 (pos 0)) 16 c.kept.ensures refl (omega (arith, c.kept.ensures.bidders)) }

pub returns : goal.returns
returns c =
    let value_fits : SFits w128 c.value_among-most.result = search rules in
    let own = c.is_allowed_without.ensures.0 c.if-not-is_allowed_without.false in
    part-answer c.args.book.now c.args.j (without_value c.args.part.now) (to_z w128 (of_z w128 c.value_among-most.result)) c.table_test.result c.is_none.result
    (to_z-of_z w128 c.value_among-most.result value_fits ∙ c.value_among-most.ensures.value ∙ ap (λ (l : List ℕ). value_of (market_of c.args.book.now) l)
    c.numbers-choice.ensures)
    (subst (λ (l : List ℕ). IsTrue ((market_of c.args.book.now).allowed l)) c.numbers-choice.ensures own.0)
    (sym (ap (λ (l : List ℕ). number_of l c.args.j) c.numbers-choice.ensures) ∙ own.1) c.is_none.ensures
    (table-same (without (menu_of c.args.book.now) c.args.j) (worth_with c.args.book.now (pos 1) (replicate 16 (pos 0)))
    (net_of c.args.book.now) c.args.book.now.supply c.args.part.now.table (to_z w128 (of_z w128 c.value_among-most.result)) c.table_test.result
    (λ j i some inside. plain-worth c.args.book.now (replicate 16 (pos 0)) 16 refl j i) c.table_test.ensures)
