use Rattle.std.proofs.Common.{arith}
use Rattle.std.proofs.lemmas.Bool.{iff_false}
use Rattle.placement_cert.specs.CertValues.{place_cert_value}
use Rattle.slot_places.specs.Board.{market_of_slots}
use Rattle.placement_check.proofs.PlaceLaws.{first-past}
use Rattle.placement_check.proofs.RowLaws.{count-rows}
use Rattle.placement_check.proofs.SetTests.{always}
use Rattle.placement_check.proofs.claims.least_holds.Goals as goal

pub returns-then-not-is_one_of : goal.returns-then-not-is_one_of
returns-then-not-is_one_of c =
    let count = count-rows c.args.cert.now.rows c.items-rows.result.now c.items-rows.ensures in
    always (first-past (market_of_slots c.args.slots.now) (place_cert_value c.args.cert.now).cert c.args.place
    (λ h. iff_false c.is_one_of.ensures c.if-not-is_one_of.true (h.0, omega (arith, h.1, c.bidders.ensures.bidders, count))))
