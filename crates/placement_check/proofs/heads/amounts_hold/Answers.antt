use Rattle.std.proofs.Common.{arith, rules, replicate, pos}
use Rattle.std.proofs.lemmas.Int.{to_z-of_z}
use mir.Val.{SFits}
use mir.Syntax.{w128}
use Rattle.slot_places.specs.Slots.{amount_of}
use Rattle.placement_check.specs.OfferRules.{worth_with}
use Rattle.placement_check.proofs.PartLaws.{cert-kept}
use Rattle.placement_check.proofs.SetTests.{whole-table}
use Rattle.placement_check.proofs.Small.{plain-small, plain-worth}
use Rattle.placement_check.proofs.heads.amounts_hold.Goals as goal

pub invariant_of-offers : goal.invariant_of-offers
invariant_of-offers c = record { sizes = plain-small c.args.slots.now 0 6 c.kept.ensures (omega (arith, c.kept.ensures.few)) }

pub table_holds-requires : goal.table_holds-requires
table_holds-requires c = record { shape = (cert-kept c.args.slots.now c.args.cert.now c.requires.shape).table }

pub returns : goal.returns
returns c =
    let slots = c.args.slots.now in
    let value_fits : SFits w128 c.args.cert.now.value = search rules in
    let value = to_z-of_z w128 c.args.cert.now.value value_fits in
    let f = worth_with slots (pos 1) (replicate 6 (pos 0)) in
    let whole = whole-table slots f (amount_of slots) c.args.cert.now.table _ _ c.args.place (λ j i some inside. plain-worth slots 6 j i) value in (
      λ t. (let own = whole.0 (c.table_holds.ensures.0 t) in record { rules = own.rules; top = own.top }),
      λ h. c.table_holds.ensures.1 (whole.1 (record { rules = h.rules; top = h.top })),
    )
