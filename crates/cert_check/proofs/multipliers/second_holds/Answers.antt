use Rattle.std.proofs.Common.{◌≡◌, ◌+◌, ◌-◌, ◌≤◌, ◌<◌, ℤ, length, get_or, pos, to_z, of_z, ◌∙◌, subst, refl, arith, rules}
use Rattle.std.specs.Prelude.{IsTrue, ◌↔◌, ◌⊎◌, ◌<ℤ◌, ◌≤ℤ◌}
use Rattle.std.proofs.lemmas.Bool.{cond-true}
use Rattle.std.proofs.lemmas.Int.{to_z-of_z}
use mir.Val.{SFits}
use mir.Syntax.{w128}
use Rattle.auction_model.specs.Book.{market_of}
use Rattle.auction_model.specs.Market.{uses, value_of, worth_in}
use Rattle.auction_model.specs.Prices.{weight_of}
use Rattle.cert_grammar.specs.Certificate.{RowValue, part_of, row_of}
use Rattle.cert_soundness.specs.Tests.{bidders_of, sum_holding}
use Rattle.cert_check.specs.Fields.{cert_with}
use Rattle.cert_check.proofs.SumLaws.{in-range}
use Rattle.cert_check.proofs.PlaceLaws.{sign-C8, sum-C8, nearest-same}
use Rattle.cert_check.proofs.multipliers.second_holds.Goals as goal

pub returns-then-place-count : goal.returns-then-place-count
returns-then-place-count c = λ withouts rows values firsts seconds sums.
    let a = c.args.claim.now in
    let le : c.args.place ≤ length rows = omega (arith, c.if-place-count.true, firsts.count) in
    let first_fits : SFits w128 (get_or c.args.firsts.now (c.args.place - 1) (pos 0)) = search rules in
    let second_fits : SFits w128 (get_or c.args.second.now.numbers.now (c.args.place - 1) (pos 0)) = search rules in
    let first = to_z-of_z w128 _ first_fits ∙ firsts.each c.args.place c.requires.place.0 le in
    let second = to_z-of_z w128 _ second_fits ∙ seconds.each c.args.place c.requires.place.0 le in
    let row = row_of rows c.args.place in
    sign-C8 a.book.now (cert_with a withouts c.args.pay.now rows) (weight_of c.args.weights.now) c.args.place row c.is_signed.result c.requires.place.0 le refl
    (subst (λ (z : ℤ). IsTrue c.is_signed.result ↔ ((pos 0 <ℤ z) ⊎ (pos 0 ≤ℤ row.second))) first
    (subst (λ (z : ℤ). IsTrue c.is_signed.result ↔ ((pos 0 <ℤ to_z w128 (of_z w128 (get_or c.args.firsts.now (c.args.place - 1) (pos 0)))) ⊎ (pos 0 ≤ℤ z)))
    second c.is_signed.ensures))

pub is_nearest-requires-clause-payment : goal.is_nearest-requires-clause-payment
is_nearest-requires-clause-payment c =
    let k = c.args.place - length c.args.firsts.now - 1 in
    let pay_fits : SFits w128 (get_or c.args.pay.now (c.args.place - length c.args.firsts.now - 1) (pos 0)) = search rules in
    rw (to_z-of_z w128 _ pay_fits) (in-range c.args.pay.now k c.requires.pay.1)

pub is_nearest-requires-clause-without : goal.is_nearest-requires-clause-without
is_nearest-requires-clause-without c =
    let j = c.args.place - length c.args.firsts.now in
    let le : c.args.place - length c.args.firsts.now ≤ bidders_of c.args.claim.now.book.now = omega (arith, c.requires.place.1) in
    let value_fits : SFits w128 (get_or c.args.values.now (c.args.place - length c.args.firsts.now - 1) (pos 0)) = search rules in
    rw (to_z-of_z w128 _ value_fits) (c.requires.values j (omega arith) le)

pub is_nearest-requires-clause-weight : goal.is_nearest-requires-clause-weight
is_nearest-requires-clause-weight c =
    let inside : c.args.place - length c.args.firsts.now - 1 < bidders_of c.args.claim.now.book.now = omega (arith, c.requires.place.1) in
    (c.requires.weights.some _ inside, c.requires.weights.most _ inside)

pub returns : goal.returns
returns c = λ withouts rows values firsts seconds sums.
    let a = c.args.claim.now in
    let j = c.args.place - length c.args.firsts.now in
    let here : c.args.place ≡ length rows + (c.args.place - length c.args.firsts.now) = omega (arith, firsts.count) in
    let le : c.args.place - length c.args.firsts.now ≤ bidders_of c.args.claim.now.book.now = omega (arith, c.requires.place.1) in
    let pay_fits : SFits w128 (get_or c.args.pay.now (c.args.place - length c.args.firsts.now - 1) (pos 0)) = search rules in
    let value_fits : SFits w128 (get_or c.args.values.now (c.args.place - length c.args.firsts.now - 1) (pos 0)) = search rules in
    let sum_fits : SFits w128 (get_or c.args.second.now.sums.now (c.args.place - length c.args.firsts.now - 1) (pos 0)) = search rules in
    let other = value_of (market_of a.book.now) (part_of withouts j).choice in
    sum-C8 a.book.now (cert_with a withouts c.args.pay.now rows) (weight_of c.args.weights.now) c.args.place j _ here (omega arith) le
    (nearest-same c.is_nearest.result (uses a.choice.now j) a.den a.value (worth_in (market_of a.book.now) a.choice.now j)
    (pos (weight_of c.args.weights.now j)) _ (get_or c.args.pay.now (j - 1) (pos 0)) _ other _
    (sum_holding rows j (λ (row : RowValue). row.second) (length rows))
    (to_z-of_z w128 _ pay_fits)
    (λ wins. to_z-of_z w128 _ value_fits ∙ values j (omega arith) le ∙ cond-true (uses a.choice.now j) other (pos 0) wins)
    (to_z-of_z w128 _ sum_fits ∙ sums j (omega arith) le) c.is_nearest.ensures)
