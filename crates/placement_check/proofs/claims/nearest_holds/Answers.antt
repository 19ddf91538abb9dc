use Rattle.std.proofs.Common.{◌≡◌, ◌∙◌, ◌+◌, ◌-◌, ◌≤◌, List, get_or, length, map, ap, arith, rules}
use Rattle.std.proofs.lemmas.Int.{to_z-of_z}
use Rattle.std.proofs.lemmas.List.{length-map}
use mir.Val.{SFits}
use mir.Syntax.{w128}
use Rattle.auction_model.specs.Prices.{alike}
use Rattle.placement_cert.specs.CertValues.{place_cert_value}
use Rattle.placement_cert.specs.Parts.{row_value}
use Rattle.placement_cert.specs.declared.certificate.PlaceRow.{PlaceRow}
use Rattle.slot_places.specs.Board.{market_of_slots}
use Rattle.placement_check.proofs.PlaceLaws.{second-sign, second-sum}
use Rattle.placement_check.proofs.RowLaws.{count-rows, row-place}
use Rattle.placement_check.proofs.claims.nearest_holds.Goals as goal

pub returns-then-place-count : goal.returns-then-place-count
returns-then-place-count c =
    let rows = c.args.cert.now.rows in
    let row = c.index-rows-place.result in
    let inside = c.is_one_of.ensures.0 c.if-not-is_one_of.false in
    let count = count-rows c.args.cert.now.rows c.items-rows.result.now c.items-rows.ensures in
    let all = length-map c.args.cert.now.rows row_value in
    let le : c.args.place ≤ length (map row_value c.args.cert.now.rows) = omega (arith, count, c.if-place-count.true) in
    let low : c.args.place ≤ length c.args.cert.now.rows = omega (arith, le, all) in
    let is = c.index-rows-place.is ∙ ap (λ (l : List PlaceRow). get_or l (c.args.place - 1) c.index-rows-place.result) c.items-rows.ensures in
    let first_fits : SFits w128 c.index-rows-place.result.first = search rules in
    let second_fits : SFits w128 c.index-rows-place.result.second = search rules in
    second-sign (market_of_slots c.args.slots.now) (place_cert_value c.args.cert.now).cert alike c.args.place (row_value row) c.is_signed.result inside.0 le
    (row-place rows c.args.place row inside.0 low is)
    (rw (to_z-of_z w128 c.index-rows-place.result.first first_fits, to_z-of_z w128 c.index-rows-place.result.second second_fits) at c.is_signed.ensures)

pub returns : goal.returns
returns c =
    let inside = c.is_one_of.ensures.0 c.if-not-is_one_of.false in
    let count = count-rows c.args.cert.now.rows c.items-rows.result.now c.items-rows.ensures in
    let j = c.args.place - length c.items-rows.result.now in
    let here : c.args.place ≡ length (map row_value c.args.cert.now.rows) + (c.args.place - length c.items-rows.result.now) =
    omega (arith, count, c.if-place-count.false) in
    let low : c.args.place - length c.items-rows.result.now ≤ length c.args.slots.now.bidders = omega (arith, inside.1, c.bidders.ensures.bidders) in
    second-sum (market_of_slots c.args.slots.now) (place_cert_value c.args.cert.now).cert alike c.args.place j c.is_nearest.result here
    (omega (arith, c.if-place-count.false)) low c.is_nearest.ensures
