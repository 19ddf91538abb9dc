use Rattle.std.proofs.Common.{◌-◌, ◌<◌, List, length, sym, subst, arith}
use Rattle.std.proofs.lemmas.Bool.{iff_false}
use Rattle.placement_cert.specs.CertValues.{place_cert_value}
use Rattle.placement_cert.specs.Parts.{AreRows}
use Rattle.placement_cert.specs.declared.certificate.PlaceRow.{PlaceRow}
use Rattle.placement_check.proofs.PartLaws.{cert-kept}
use Rattle.placement_check.proofs.PlaceLaws.{row-past}
use Rattle.placement_check.proofs.RowLaws.{each-row, count-rows}
use Rattle.placement_check.proofs.SetTests.{always}
use Rattle.placement_check.proofs.claims.row_holds.Goals as goal

pub returns-then-not-is_one_of : goal.returns-then-not-is_one_of
returns-then-not-is_one_of c =
    let count = count-rows c.args.cert.now.rows c.items-rows.result.now c.items-rows.ensures in
    always (row-past c.args.slots.now (place_cert_value c.args.cert.now) c.args.place
    (λ h. iff_false c.is_one_of.ensures c.if-not-is_one_of.true (h.0, omega (arith, h.1, count))))

pub is_tight_row-requires-clause-row : goal.is_tight_row-requires-clause-row
is_tight_row-requires-clause-row c =
    let b = length c.args.slots.now.bidders in
    let inside = c.is_one_of.ensures.0 c.if-not-is_one_of.false in
    let lt : c.args.place - 1 < length c.items-rows.result.now = omega (arith, inside.0, inside.1) in
    let kept = (cert-kept c.args.slots.now c.args.cert.now c.requires.shape).rows in
    let are = subst (λ (l : List PlaceRow). AreRows b l) (sym c.items-rows.ensures) kept in
    each-row b c.items-rows.result.now (c.args.place - 1) c.index-rows-place.result are lt c.index-rows-place.is
