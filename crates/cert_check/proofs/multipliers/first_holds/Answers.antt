use Rattle.std.proofs.Common.{◌≡◌, ◌+◌, ◌-◌, ◌≤◌, [], ℤ, length, get_or, pos, ◌∙◌, subst, refl, arith, rules}
use Rattle.std.specs.Prelude.{IsTrue, ◌↔◌, ◌≤ℤ◌}
use Rattle.std.proofs.lemmas.Int.{to_z-of_z}
use mir.Val.{SFits}
use mir.Syntax.{w128}
use Rattle.auction_model.specs.Market.{uses}
use Rattle.cert_grammar.specs.Certificate.{row_of}
use Rattle.cert_soundness.specs.Tests.{bidders_of}
use Rattle.cert_check.specs.Fields.{cert_with}
use Rattle.cert_check.proofs.PlaceLaws.{sign-C7, sum-C7}
use Rattle.cert_check.proofs.multipliers.first_holds.Goals as goal

pub returns-then-place-count : goal.returns-then-place-count
returns-then-place-count c = λ rows numbers sums.
    let a = c.args.claim.now in
    let le : c.args.place ≤ length rows = omega (arith, c.if-place-count.true, numbers.count) in
    let first_fits : SFits w128 (get_or c.args.first.now.numbers.now (c.args.place - 1) (pos 0)) = search rules in
    sign-C7 a.book.now (cert_with a [] [] rows) c.args.place (row_of rows c.args.place) c.is_first.result c.requires.place.0 le refl
    (subst (λ (z : ℤ). IsTrue c.is_first.result ↔ (pos 0 ≤ℤ z)) (to_z-of_z w128 _ first_fits ∙ numbers.each c.args.place c.requires.place.0 le)
    c.is_first.ensures)

pub returns : goal.returns
returns c = λ rows numbers sums.
    let a = c.args.claim.now in
    let j = c.args.place - length c.args.first.now.numbers.now in
    let here : c.args.place ≡ length rows + (c.args.place - length c.args.first.now.numbers.now) = omega (arith, numbers.count) in
    let le : c.args.place - length c.args.first.now.numbers.now ≤ bidders_of c.args.claim.now.book.now = omega (arith, c.requires.place.1) in
    let sum_fits : SFits w128 (get_or c.args.first.now.sums.now (c.args.place - length c.args.first.now.numbers.now - 1) (pos 0)) = search rules in
    sum-C7 a.book.now (cert_with a [] [] rows) c.args.place j _ here (omega arith) le
    (subst (λ (z : ℤ). IsTrue c.is_least.result ↔ (IsTrue (uses a.choice.now j) → z ≡ a.den)) (to_z-of_z w128 _ sum_fits ∙ sums j (omega arith) le)
    c.is_least.ensures)
