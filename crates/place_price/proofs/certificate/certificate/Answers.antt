use Rattle.std.proofs.Common.{◌≡◌, ◌∙◌, ap, arith, refl, rules, subst, sym, to_z, of_z, List, map}
use Rattle.std.proofs.lemmas.Int.{to_z-of_z}
use Rattle.std.specs.Int.{w128}
use Rattle.core_price.specs.declared.priced.PricedRow.{PricedRow}
use Rattle.book_price.specs.Made.{row_from}
use Rattle.placement_check.specs.PlacePriced.{IsPricedPlaceCert}
use Rattle.place_price.proofs.Passes.{long, priced_passes}
use Rattle.place_price.proofs.RowOrders.{kept-allowed}
use Rattle.place_price.proofs.Shape.{made_is, made_shape}
use Rattle.core_laws.specs.Winners.{for_bidders}
use Rattle.place_price.proofs.certificate.certificate.Goals as goal

pub what_is_added-requires-clause-allowed : goal.what_is_added-requires-clause-allowed
what_is_added-requires-clause-allowed c = c.requires.1.winning.passed

pub what_is_added-requires-clause-few : goal.what_is_added-requires-clause-few
what_is_added-requires-clause-few c =
    let kept = c.kept.ensures in
    let l = long c.args.slots.now kept c.args.whole c.requires.0 c.args.parts c.args.priced c.requires.1 in
    let f = kept.few in
    omega (arith, l, f)

pub what_is_added-requires-clause-points : goal.what_is_added-requires-clause-points
what_is_added-requires-clause-points c = c.requires.1.priced_is.prices.long

pub what_is_added-requires-clause-kept : goal.what_is_added-requires-clause-kept
what_is_added-requires-clause-kept c =
    let priced = c.args.priced in
    kept-allowed c.args.slots.now c.args.whole.choice priced.den priced.at priced.rows c.requires.1.priced_is.shown.kept

pub invariant_of-cert : goal.invariant_of-cert
invariant_of-cert c =
    let z = c.args.whole.choice in
    let found = c.requires.1 in
    let d : to_z w128 (of_z w128 c.args.priced.den) ≡ c.args.priced.den = to_z-of_z w128 c.args.priced.den (search rules) in
    let v : to_z w128 (of_z w128 c.args.whole.sum) ≡ c.args.whole.sum = to_z-of_z w128 c.args.whole.sum (search rules) in
    record {
      rules = made_shape c.args.slots.now c.kept.ensures c.args.whole c.requires.0 c.args.parts c.args.priced found c.in_ok-added.added.order c.in_ok-added.ensures.order
          c.in_ok-added.added.rows
          c.in_ok-added.ensures.rows c.in_ok-added.ensures.placed
          _ _ z c.args.whole.table c.in_ok-added.added.pay c.args.priced.last.table d (v ∙ found.value) refl refl
          c.in_ok-added.ensures.pay refl;
    }

pub returns-clause-point : goal.returns-clause-point
returns-clause-point c =
    let z = c.args.whole.choice in
    let d : to_z w128 (of_z w128 c.args.priced.den) ≡ c.args.priced.den = to_z-of_z w128 c.args.priced.den (search rules) in
    let pay : c.in_ok-added.added.pay ≡ for_bidders z c.args.priced.at = c.in_ok-added.ensures.pay in
    λ t. record { den = d t; at = pay t }

pub returns-clause-cert : goal.returns-clause-cert
returns-clause-cert c =
    let slots = c.args.slots.now in
    let kept = c.kept.ensures in
    let z = c.args.whole.choice in
    let found = c.requires.1 in
    let d : to_z w128 (of_z w128 c.args.priced.den) ≡ c.args.priced.den = to_z-of_z w128 c.args.priced.den (search rules) in
    let v : to_z w128 (of_z w128 c.args.whole.sum) ≡ c.args.whole.sum = to_z-of_z w128 c.args.whole.sum (search rules) in
    subst (IsPricedPlaceCert slots)
    (sym (made_is slots kept c.args.whole c.requires.0 c.args.parts c.args.priced found c.in_ok-added.added.order c.in_ok-added.ensures.order c.in_ok-added.added.rows
    c.in_ok-added.ensures.rows c.in_ok-added.ensures.placed
    _ _ z c.args.whole.table c.in_ok-added.added.pay c.args.priced.last.table d (v ∙ found.value) refl refl
    c.in_ok-added.ensures.pay refl))
    (priced_passes slots kept c.args.whole c.requires.0 c.args.parts c.args.priced found c.in_ok-added.added.order c.in_ok-added.ensures.order c.in_ok-added.added.rows
    c.in_ok-added.ensures.rows c.in_ok-added.ensures.placed)
