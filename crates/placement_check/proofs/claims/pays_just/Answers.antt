use Rattle.std.proofs.Common.{◌≡◌, ◌∙◌, ◌-ℤ◌, ℕ, ℤ, List, length, not, ap, to_z, of_z, arith, rules}
use Rattle.std.proofs.lemmas.Int.{ints, to_z-of_z}
use mir.Val.{SFits}
use mir.Syntax.{w128}
use Rattle.auction_model.specs.Lowered.{of_bidder}
use Rattle.auction_model.specs.Market.{value_of, worth_in}
use Rattle.auction_model.specs.Prices.{sum_over}
use Rattle.cert_grammar.specs.Certificate.{is_member}
use Rattle.cert_check.proofs.TimesLaws.{times-same}
use Rattle.slot_places.specs.Board.{market_of_slots}
use Rattle.placement_check.proofs.PartLaws.{cert-kept}
use Rattle.placement_check.proofs.Small.{less-same}
use Rattle.placement_check.proofs.claims.pays_just.Goals as goal

pub returns : goal.returns
returns c =
    let m = market_of_slots c.args.slots.now in
    let b = length c.args.slots.now.bidders in
    let kept = cert-kept c.args.slots.now c.args.cert.now c.requires.shape in
    let den_fits : SFits w128 c.args.cert.now.den = search rules in
    let paid_fits : SFits w128 c.paid_by.result = search rules in
    let rest : to_z w128 (of_z w128 (to_z w128 (of_z w128 c.worth.result) -ℤ to_z w128 (of_z w128 c.won_beside.result))) ≡ c.worth.result -ℤ
    c.won_beside.result =
    omega (arith, ints, c.worth.ensures.least, c.worth.ensures.most, c.won_beside.ensures.least, c.won_beside.ensures.most) in
    let test = rw (to_z-of_z w128 c.args.cert.now.den den_fits) at c.is_product.ensures in
    let paid = to_z-of_z w128 c.paid_by.result paid_fits ∙ c.paid_by.ensures
    ∙ ap (λ (l : List ℤ). sum_over (is_member c.items-members.result.now) (of_bidder l) (length l)) c.items.ensures
    ∙ ap (λ (n : ℕ). sum_over (is_member c.items-members.result.now) (of_bidder c.args.cert.now.pay) n) kept.pay.0
    ∙ ap (λ (l : List ℕ). sum_over (is_member l) (of_bidder c.args.cert.now.pay) b) c.items-members.ensures in
    let whole = c.worth.ensures.value ∙ ap (λ (l : List ℕ). value_of m l) c.numbers.ensures in
    let beside = c.won_beside.ensures.sum ∙ ap (λ (l : List ℕ). sum_over (λ j. not (is_member l j)) (worth_in m c.args.cert.now.choice) b)
    c.items-members.ensures in
    times-same c.is_product.result c.args.cert.now.den _ _ _ _ paid (rest ∙ less-same c.worth.result c.won_beside.result _ _ whole beside) test
