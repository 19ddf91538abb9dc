use Rattle.std.proofs.Common.{◌∙◌, sym, ap, arith, not}
use Rattle.std.proofs.lemmas.Bool.{iff_false, eq-eqb}
use Rattle.auction_model.specs.Market.{number_of}
use Rattle.placement_cert.specs.CertValues.{place_cert_value}
use Rattle.cert_check.proofs.PartLaws.{wins-some}
use Rattle.placement_check.proofs.PlaceLaws.{part-past, part-loser, part-winner}
use Rattle.placement_check.proofs.SetTests.{always}
use Rattle.placement_check.proofs.parts.part_holds.Goals as goal

pub returns-then-not-is_one_of : goal.returns-then-not-is_one_of
returns-then-not-is_one_of c =
    always (part-past c.args.slots.now (place_cert_value c.args.cert.now) c.args.place
    (λ h. iff_false c.is_one_of.ensures c.if-not-is_one_of.true (h.0, omega (arith, h.1, c.bidders.ensures.bidders))))

pub returns-then-number-eq0 : goal.returns-then-number-eq0
returns-then-number-eq0 c =
    always (part-loser c.args.slots.now (place_cert_value c.args.cert.now) c.args.place
    (ap not (eq-eqb (number_of c.args.cert.now.choice c.args.place) 0 (sym c.number.ensures ∙ c.if-number-eq0.true))))

pub returns : goal.returns
returns c =
    let inside = c.is_one_of.ensures.0 c.if-not-is_one_of.false in
    part-winner c.args.slots.now (place_cert_value c.args.cert.now) c.args.place c.has_part.result inside.0 (omega (arith, inside.1, c.bidders.ensures.bidders))
    (wins-some c.args.cert.now.choice c.args.place c.number.result c.number.ensures c.if-number-eq0.false) c.has_part.ensures
