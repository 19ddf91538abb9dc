use Rattle.std.proofs.Common.{◌≡◌, ◌<◌, ◌≤◌, ℕ, length, arith, rules, true, subst}
use Rattle.slot_places.specs.SetTable.{holds}
use Rattle.slot_places.proofs.SetBits.{all-to, none-out}
use Rattle.slot_places.proofs.bests.outside_bidder.Goals as goal

pub loop-k-init : goal.loop-k-init
loop-k-init c = λ h some low. absurd (omega (arith, some, low))

pub loop-k-preserved : goal.loop-k-preserved
loop-k-preserved c = all-to c.args.set c.loop-k.k c.loop-k.invariant (search rules)

pub unreachable-requires : goal.unreachable-requires
unreachable-requires c =
    let all : c.loop-k.k ≡ length c.args.search.now.slots.now.bidders = omega arith in
    none-out (length c.args.search.now.slots.now.bidders) c.args.set c.requires (subst (λ n. (h : ℕ) → 0 < h → h ≤ n → holds c.args.set h ≡ true) all
    c.loop-k.invariant)
