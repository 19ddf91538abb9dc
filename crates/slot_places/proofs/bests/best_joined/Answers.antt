use Rattle.std.proofs.Common.{◌≡◌, ◌+◌, ◌-◌, ◌^◌, ◌<◌, ℕ, length, arith, sym, subst}
use Rattle.slot_places.specs.Steps.{IsBestOf}
use Rattle.slot_places.specs.declared.bests.Best.{Best}
use Rattle.slot_places.proofs.SetBits.{joined-small, power-positive}
use Rattle.slot_places.proofs.bests.best_joined.Goals as goal

within : (set m n j w : ℕ) → set + 1 + m ≡ n → w ≡ 2 ^ (j - 1) → 0 < 2 ^ (j - 1) → set + 2 ^ (j - 1) < n → w - 1 < m
within set m n j w e is positive small = omega (arith, e, is, positive, small)

pub bounds-greater-weight : goal.bounds-greater-weight
bounds-greater-weight c =
    let b = length c.args.search.now.slots.now.bidders in
    let low : c.args.set < 2 ^ b = omega (arith, c.requires.greater.count) in
    within c.args.set (length c.args.greater.now) (2 ^ b) c.args.j c.weight.result c.requires.greater.count c.weight.ensures (power-positive (c.args.j - 1))
    (joined-small b c.args.set c.args.j low c.requires.bidder.0 c.requires.bidder.1 c.requires.new)

pub returns : goal.returns
returns c =
    let x = c.weight.result - 1 in
    let b = length c.args.search.now.slots.now.bidders in
    let low : c.args.set < 2 ^ b = omega (arith, c.requires.greater.count) in
    let inside = within c.args.set (length c.args.greater.now) (2 ^ b) c.args.j c.weight.result c.requires.greater.count c.weight.ensures
    (power-positive (c.args.j - 1)) (joined-small b c.args.set c.args.j low c.requires.bidder.0 c.requires.bidder.1 c.requires.new) in
    let own = c.requires.greater.each x c.index-greater-weight.result inside in
    let at : IsBestOf c.args.search.now (c.args.set + 1 + x) c.index-greater-weight.result =
    subst (λ (b : Best). IsBestOf c.args.search.now (c.args.set + 1 + x) b) (sym c.index-greater-weight.is) own in
    let p = power-positive (c.args.j - 1) in
    let e : c.args.set + 1 + x ≡ c.args.set + 2 ^ (c.args.j - 1) = omega (arith, p, c.weight.ensures) in
    subst (λ n. IsBestOf c.args.search.now n c.index-greater-weight.result) e at
