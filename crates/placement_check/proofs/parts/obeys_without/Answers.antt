use Rattle.std.proofs.Common.{arith, replicate, pos, sym}
use Rattle.slot_places.specs.Board.{board_without}
use Rattle.slot_places.specs.Slots.{amount_of}
use Rattle.placement_check.specs.OfferRules.{worth_with}
use Rattle.placement_check.proofs.SetTests.{set-same}
use Rattle.placement_check.proofs.Small.{plain-small, plain-worth}
use Rattle.placement_check.proofs.parts.obeys_without.Goals as goal

pub invariant_of-offers : goal.invariant_of-offers
invariant_of-offers c = record { sizes = plain-small c.args.slots.now c.args.j 6 c.kept.ensures (omega (arith, c.kept.ensures.few)) }

pub returns : goal.returns
returns c =
    let slots = c.args.slots.now in
    let b = board_without slots c.args.j in (
      λ t bits low. set-same b (worth_with slots (pos 1) (replicate 6 (pos 0))) (amount_of slots) c.args.part.now.table bits
          (λ j i some inside. plain-worth slots 6 j i) (c.obeys_sets.ensures.0 t bits low),
      λ h. c.obeys_sets.ensures.1 (λ bits low. set-same b (amount_of slots) (worth_with slots (pos 1) (replicate 6 (pos 0))) c.args.part.now.table bits
          (λ j i some inside. sym (plain-worth slots 6 j i)) (h bits low)),
    )
