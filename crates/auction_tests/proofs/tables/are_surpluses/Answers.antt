use Rattle.std.proofs.Common.{Bool, arith, false, get_or, length, negsuc, not, pos, refl, rules, suc, true, unsigned_abs, zero, ℕ, ℤ, ◌*◌, ◌-◌, ◌<◌}
use Rattle.std.proofs.Common.{◌==◌, ◌≡◌, ◌≤ℤ◌, ◌≤◌}
use Rattle.std.proofs.lemmas.Int.{ints, to_z-of_z}
use Rattle.std.specs.Int.Signed.{lt_z, lt_z_no}
use Rattle.std.proofs.lemmas.Nat.{mul-le}
use Rattle.std.proofs.lemmas.Bool.{eqb-true, not_from_false}
use Rattle.auction_model.specs.Book.{market_of}
use Rattle.auction_model.specs.Market.{value_of}
use Rattle.auction_model.specs.Lowered.{of_bidder, sum_to}
use lib.Dec.{T}
use mir.Val.{SFits}
use mir.Syntax.{w128}
use Rattle.auction_tests.proofs.tables.are_surpluses.Goals as goal

small-sum : (f : ℕ → ℕ) (n most : ℕ) → ((j : ℕ) → 0 < j → j ≤ n → f j ≤ most) → sum_to f n ≤ n * most
small-sum f zero most h = omega arith
small-sum f (suc n) most h = omega (arith, small-sum f n most (λ j p q. h j p (omega arith)), h (suc n) (omega arith) (omega arith))

size : (z : ℤ) → pos 0 ≤ℤ z → z ≤ℤ pos 1000000 → unsigned_abs z ≤ 1000000
size (pos a) h k = omega (arith, ints)
size (negsuc a) h k = absurd (omega (arith, ints))

flip : (b : Bool) → not b ≡ false → b ≡ true
flip true e = refl
flip false e = cc

none : (n : ℕ) → not (n == 0) ≡ false → n ≡ 0
none n e = eqb-true n 0 (flip (n == 0) e)

holds : (b : Bool) → b ≡ true → T b
holds true h = tt
holds false h = cc

at_most : (a b : ℤ) → lt_z a b ≡ false → b ≤ℤ a
at_most a b h = lt_z_no (holds (not (lt_z a b)) (not_from_false (lt_z a b) h))

pub returns : goal.returns
returns c =
    let s = c.args.chooser.now in
    let m = market_of s.book.now in
    let V = value_of m s.winners in
    let count : length c.args.surplus.now ≡ m.bidders = omega (arith, c.if-surplus-members.false, c.members.ensures) in
    let value_fits : SFits w128 c.value-all.result = search rules in
    let low : pos 0 ≤ℤ c.value-all.result = at_most c.value-all.result (pos 0) (rw (to_z-of_z w128 c.value-all.result value_fits) at c.if-all-lt0.false) in
    let high : c.value-all.result ≤ℤ pos 1000000 = at_most (pos 1000000) c.value-all.result
    (rw (to_z-of_z w128 c.value-all.result value_fits) at c.if-all-gt1000000.false) in
    let all : unsigned_abs V ≤ 1000000 = rw (← c.value-all.ensures.value) (size c.value-all.result low high) in
    let sum = small-sum (λ j. unsigned_abs (of_bidder c.args.surplus.now j)) m.bidders 1000000
    (λ j some inside. c.loop-k.invariant.small (j - 1) (omega (arith, count))) in
    λ _. record {
      bidders = count;
      losers = λ j some inside lost. c.loop-k.invariant.losers (j - 1) (omega (arith, count)) (none (get_or s.winners (j - 1) 0) lost);
      den_positive = omega (arith, ints);
      range = omega (arith, sum, s.lawful.few, mul-le (m.bidders * 1) (unsigned_abs V) 65536 1000000 (omega (arith, s.lawful.few)) all);
    }
