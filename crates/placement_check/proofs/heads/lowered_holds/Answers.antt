use Rattle.std.proofs.Common.{◌∙◌, ◌≤◌, arith, rules, length, sym, ap, subst, to_z, of_z, ℤ, ℕ, List}
use Rattle.std.specs.Prelude.{IsTrue, ◌↔◌}
use Rattle.std.proofs.lemmas.Int.{to_z-of_z}
use mir.Val.{SFits}
use mir.Syntax.{w128}
use Rattle.auction_model.specs.Lowered.{of_bidder}
use Rattle.auction_model.specs.Prices.{everyone, sum_over}
use Rattle.slot_places.specs.Board.{board_without, market_of_slots}
use Rattle.cert_soundness.specs.MarketPrices.{lowered_in}
use Rattle.placement_cert.specs.CertValues.{place_cert_value}
use Rattle.placement_check.specs.OfferRules.{worth_with, SetTableAt, HasSmallWorths}
use Rattle.placement_check.proofs.PartLaws.{cert-kept}
use Rattle.placement_check.proofs.SetTests.{whole-table}
use Rattle.placement_check.proofs.Small.{lowered-small, lowered-worth}
use Rattle.placement_check.proofs.heads.lowered_holds.Goals as goal

pub put_gains-requires-clause-room : goal.put_gains-requires-clause-room
put_gains-requires-clause-room c = omega (arith, c.kept.ensures.few)

pub invariant_of-offers : goal.invariant_of-offers
invariant_of-offers c =
    let slots = c.args.slots.now in
    let den_fits : SFits w128 c.args.cert.now.den = search rules in
    let many : length c.args.slots.now.bidders ≤ length c.put_gains.new.gains = omega (arith, c.put_gains.ensures.room, c.kept.ensures.few) in
    record {
      sizes = subst (λ (z : ℤ). HasSmallWorths slots 0 z c.put_gains.new.gains) (sym (to_z-of_z w128 c.args.cert.now.den den_fits))
          (lowered-small slots (place_cert_value c.args.cert.now) c.requires.lower c.put_gains.new.gains many c.put_gains.ensures.gains);
    }

pub sum_paid-requires-clause-few : goal.sum_paid-requires-clause-few
sum_paid-requires-clause-few c =
    let kept = cert-kept c.args.slots.now c.args.cert.now c.requires.shape in
    let count = ap (λ (l : List ℤ). length l) c.items.ensures in
    omega (arith, count, kept.pay.0, c.kept.ensures.few)

pub table_holds-requires : goal.table_holds-requires
table_holds-requires c = record { shape = (cert-kept c.args.slots.now c.args.cert.now c.requires.shape).lowered }

pub returns : goal.returns
returns c =
    let slots = c.args.slots.now in
    let p = place_cert_value c.args.cert.now in
    let kept = cert-kept slots c.args.cert.now c.requires.shape in
    let den_fits : SFits w128 c.args.cert.now.den = search rules in
    let total_fits : SFits w128 c.sum_paid.result = search rules in
    let total = to_z-of_z w128 c.sum_paid.result total_fits ∙ c.sum_paid.ensures ∙ ap (λ (l : List ℤ). sum_over everyone (of_bidder l) (length l))
    c.items.ensures
    ∙ ap (λ (n : ℕ). sum_over everyone (of_bidder c.args.cert.now.pay) n) kept.pay.0 in
    let f = worth_with slots c.args.cert.now.den c.put_gains.new.gains in
    let g = lowered_in (market_of_slots slots) p.cert in
    let same = lowered-worth slots p c.requires.lower c.put_gains.new.gains c.put_gains.ensures.gains in
    let test = subst (λ (z : ℤ). IsTrue c.table_holds.result ↔ SetTableAt (board_without slots 0) (worth_with slots z c.put_gains.new.gains)
    c.args.cert.now.lowered (to_z w128 (of_z w128 c.sum_paid.result)) c.args.place)
    (to_z-of_z w128 c.args.cert.now.den den_fits) c.table_holds.ensures in
    let whole = whole-table slots f g c.args.cert.now.lowered _ _ c.args.place same total in (
      λ t. (let own = whole.0 (test.0 t) in record { rules = own.rules; top = own.top }),
      λ h. test.1 (whole.1 (record { rules = h.rules; top = h.top })),
    )
