use Rattle.std.proofs.Common.{Bool, true, false, not, ◌==◌, refl, ◌≡◌, ◌-◌, ◌*◌, ◌<◌, ◌≤◌, ◌^◌, ℕ, zero, suc, arith, get_or, length, pos, ℤ, unsigned_abs}
use Rattle.std.proofs.lemmas.Int.{ints}
use Rattle.std.proofs.lemmas.Nat.{mul-le}
use Rattle.std.proofs.lemmas.Bool.{eqb-true}
use Rattle.auction_model.specs.Market.{value_of}
use Rattle.auction_model.specs.Lowered.{of_bidder, sum_to}
use Rattle.slot_places.specs.Board.{market_of_slots}
use Rattle.slot_places.proofs.PlainSearch.{sum-most, value-small}
use Rattle.auction_tests.proofs.slots.are_surpluses.Goals as goal

flip : (b : Bool) → not b ≡ false → b ≡ true
flip true e = refl
flip false e = cc

none : (n : ℕ) → not (n == 0) ≡ false → n ≡ 0
none n e = eqb-true n 0 (flip (n == 0) e)

pub returns : goal.returns
returns c =
    let s = c.args.chooser.now in
    let m = market_of_slots s.slots.now in
    let kept = c.bidders-bidders.ensures.kept in
    let few = kept.few in
    let count : length c.args.surplus.now ≡ m.bidders = omega (arith, c.if-surplus-members.false, c.members.ensures) in
    let value = value-small s.slots.now s.winners kept s.winning.passed in
    let sum = sum-most (λ j. unsigned_abs (of_bidder c.args.surplus.now j)) 1000000 m.bidders
    (λ j some inside. c.loop-k.invariant.small (j - 1) (omega (arith, count, some, inside))) in
    let product = mul-le (m.bidders * 1) (unsigned_abs (value_of m s.winners)) 6 (6 * 2 ^ 42) (omega (arith, few)) value in
    λ _. record {
      bidders = count;
      losers = λ j some inside lost. c.loop-k.invariant.losers (j - 1) (omega (arith, count, some, inside)) (none (get_or s.winners (j - 1) 0) lost);
      den_positive = omega (arith, ints);
      range = omega (arith, sum, few, product);
    }
