use Rattle.std.proofs.Common.{map, pos, sym, ◌∙◌, ap, not, rules}
use Rattle.std.proofs.lemmas.Bool.{cond-true, cond-false, eq-eqb}
use Rattle.std.proofs.lemmas.Int.{to_z-of_z}
use mir.Val.{SFits}
use mir.Syntax.{w128}
use Rattle.auction_model.specs.Book.{market_of}
use Rattle.auction_model.specs.Market.{number_of, uses, value_of}
use Rattle.cert_grammar.specs.Certificate.{part_of}
use Rattle.cert_text.specs.Parts.{without_value}
use Rattle.cert_check.proofs.PartLaws.{wins-some}
use Rattle.cert_check.proofs.whole.parts.part_value.Goals as goal

pub found_value-requires : goal.found_value-requires
found_value-requires c = c.requires.parts c.args.j c.requires.bidder.0 c.requires.bidder.1
    (wins-some c.args.claim.now.choice.now c.args.j c.number.result c.number.ensures c.if-number-eq0.false)

pub returns-then-number-eq0 : goal.returns-then-number-eq0
returns-then-number-eq0 c =
    let a = c.args.claim.now in
    sym (cond-false (uses a.choice.now c.args.j) (value_of (market_of a.book.now) (part_of (map without_value c.args.parts.now) c.args.j).choice) (pos 0)
    (ap not (eq-eqb (number_of a.choice.now c.args.j) 0 (sym c.number.ensures ∙ c.if-number-eq0.true))))

pub returns : goal.returns
returns c =
    let a = c.args.claim.now in
    let value_fits : SFits w128 c.found_value.result = search rules in
    to_z-of_z w128 c.found_value.result value_fits ∙ c.found_value.ensures
    ∙ sym (cond-true (uses a.choice.now c.args.j) (value_of (market_of a.book.now) (part_of (map without_value c.args.parts.now) c.args.j).choice) (pos 0)
    (wins-some a.choice.now c.args.j c.number.result c.number.ensures c.if-number-eq0.false))
