use Rattle.std.proofs.Common.{◌∙◌, ℕ, List, length, ap}
use Rattle.placement_check.proofs.PartLaws.{part-form}
use Rattle.placement_check.proofs.claims.worth_without.Goals as goal

pub worth-requires : goal.worth-requires
worth-requires c =
    ap (λ (l : List ℕ). length l) c.numbers.ensures
    ∙ (part-form c.args.slots.now c.args.cert.now c.requires.shape c.items-part-items.result.now c.loop-part.part-index c.part-item.result
    c.items-part-items.ensures c.loop-part-test.true c.part-item.is).choice
