use Rattle.std.proofs.Common.{◌≡◌, ◌∙◌, ◌+◌, ◌-◌, ◌*◌, ◌^◌, ◌≤◌, ◌<◌, suc, ◌∷◌, length, ap, arith, rules, unsigned_abs, ℕ, ℤ, pos, ◌+ℤ◌, ◌≤ℤ◌, ◌<ℤ◌, refl}
use Rattle.std.proofs.lemmas.Int.{ints, by_lt_z, to_z-of_z}
use Rattle.auction_model.specs.Book.{lots_of, menu_of, net_of}
use Rattle.auction_model.specs.Market.{sum_after}
use Rattle.auction_model.specs.Package.{less}
use Rattle.auction_model.specs.Place.{left_at}
use Rattle.auction_model.proofs.PlaceLaws.{left_at-less}
use Rattle.auction_model.proofs.TraceLaws.{first-last}
use Rattle.choices.proofs.ListingLaws.{past-first, past-passes, past-better, past-worse, past-all}
use mir.Val.{SFits}
use mir.Syntax.{w128}
use Rattle.choices.proofs.listing.+first_after.Goals as goal

pub returns-then-k-bidders-clause-first : goal.returns-then-k-bidders-clause-first
returns-then-k-bidders-clause-first t c =
    let m = menu_of c.args.book.now in
    let all : c.args.k ≡ m.bidders = omega (arith, c.bidders.ensures.bidders) in
    rw (c.new-numbers.ensures, all) (first-last m (net_of c.args.book.now) (left_at c.args.book.now.supply c.args.place))

size-more : (n k : ℕ) (worth rest : ℤ) → k < n → unsigned_abs worth ≤ 2 ^ 42 → unsigned_abs rest ≤ (n - (k + 1)) * 2 ^ 42
    → unsigned_abs (worth +ℤ rest) ≤ (n - k) * 2 ^ 42
size-more n k worth rest inside own others = omega (arith, ints, own, others)

pub loop-i-init : goal.loop-i-init
loop-i-init t c =
    let book = c.args.book.now in
    let k = c.args.k in
    let rest = c.in_ok-first_after.field-0 in
    let next : k + 1 ≡ suc k = omega arith in
    let inside : k < length book.bidders = omega (arith, c.bidders.ensures.bidders) in
    let value : c.in_ok-best.best.value ≡ pos 0 +ℤ rest.value = c.in_ok-best.ensures.value in
    let all : rest.value ≡ sum_after (net_of book) (suc k) rest.numbers = rw next at c.in_ok-first_after.ensures.value in
    record {
      best = rw (c.in_ok-best.ensures.numbers, c.bids-i.ensures.bids) (past-first (menu_of book) (net_of book) k (k + 1)
          (left_at book.supply c.args.place) rest.numbers next refl c.in_ok-first_after.ensures.first);
      value = rw c.in_ok-best.ensures.numbers (value ∙ ap (λ z. pos 0 +ℤ z) all);
      size = rw value (size-more (length book.bidders) k (pos 0) rest.value inside (omega arith) c.in_ok-first_after.ensures.size);
    }

pub loop-i-preserved-in-Some : goal.loop-i-preserved-in-Some
loop-i-preserved-in-Some t c =
    let book = c.args.book.now in
    let m = menu_of book in
    let net = net_of book in
    let k = c.args.k in
    let j = k + 1 in
    let number = c.loop-i.i - 1 + 1 in
    let left = left_at book.supply c.args.place in
    let best = c.loop-i.best in
    let rest = c.in_ok-rest.rest in
    let new = c.in_ok-next.next in
    let next : j ≡ suc k = omega arith in
    let inside : k < length book.bidders = omega (arith, c.bidders.ensures.bidders) in
    let known : c.loop-i.i ≤ m.bids j = omega (arith, c.bids-i.ensures.bids) in
    let after : left_at book.supply c.in-Some.left ≡ less left (lots_of book j number) = ap (left_at book.supply) c.in-Some.ensures.left
    ∙ left_at-less book.supply (lots_of book j number) c.args.place c.requires.place in
    let numbers : new.numbers ≡ number ∷ rest.numbers = c.in_ok-next.ensures.numbers in
    let worth_fits : SFits w128 c.worth.result = search rules in
    let value : new.value ≡ c.worth.result +ℤ rest.value = rw (to_z-of_z w128 c.worth.result worth_fits) at c.in_ok-next.ensures.value in
    let all : rest.value ≡ sum_after net (suc k) rest.numbers = rw next at c.in_ok-rest.ensures.value in
    let own : c.worth.result ≡ net (suc k) number = rw next at c.worth.ensures.worth in
    let is : new.value ≡ sum_after net k (number ∷ rest.numbers) = value ∙ ap (λ z. z +ℤ rest.value) own ∙ ap (λ z. net (suc k) number +ℤ z) all in
    let size : unsigned_abs new.value ≤ (length book.bidders - k) * 2 ^ 42 = rw value
    (size-more (length book.bidders) k c.worth.result rest.value inside c.worth.ensures.size c.in_ok-rest.ensures.size) in
    by_lt_z new.value best.value
    (λ worse.
    let kept : c.better-best.result ≡ best = c.better-best.ensures.kept worse in
    let low : sum_after net k (number ∷ rest.numbers) <ℤ sum_after net k best.numbers = rw (← is, ← c.loop-i.invariant.value) worse in
    rw kept (record {
      best = past-worse m net k j left next rest.numbers best.numbers (left_at book.supply c.in-Some.left) c.loop-i.i
          (omega arith) known c.in-Some.ensures.fits after c.in_ok-rest.ensures.first c.loop-i.invariant.best low;
      value = c.loop-i.invariant.value;
      size = c.loop-i.invariant.size;
    }))
    (λ most.
    let taken : c.better-best.result ≡ new = c.better-best.ensures.taken most in
    let high : sum_after net k best.numbers ≤ℤ sum_after net k (number ∷ rest.numbers) = rw (← is, ← c.loop-i.invariant.value) most in
    rw (taken, numbers) (record {
      best = past-better m net k j left next rest.numbers best.numbers (left_at book.supply c.in-Some.left) c.loop-i.i
          (omega arith) known c.in-Some.ensures.fits after c.in_ok-rest.ensures.first c.loop-i.invariant.best high;
      value = is;
      size = size;
    }))

pub loop-i-preserved : goal.loop-i-preserved
loop-i-preserved t c =
    let book = c.args.book.now in
    let k = c.args.k in
    let next : k + 1 ≡ suc k = omega arith in
    record {
      best = past-passes (menu_of book) (net_of book) k (k + 1) (left_at book.supply c.args.place) next c.loop-i.i c.loop-i.best.numbers
          (omega arith) c.in_default.ensures.exceeds c.loop-i.invariant.best;
      value = c.loop-i.invariant.value;
      size = c.loop-i.invariant.size;
    }

pub returns-clause-first : goal.returns-clause-first
returns-clause-first t c =
    let book = c.args.book.now in
    let none : c.loop-i.i ≡ 0 = omega arith in
    past-all (menu_of book) (net_of book) c.args.k (left_at book.supply c.args.place) c.loop-i.best.numbers (omega (arith, c.bidders.ensures.bidders))
    (rw none at c.loop-i.invariant.best)
