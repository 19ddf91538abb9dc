-- C9 from the test of the lowered table, and the size of lowered worths.
use Rattle.std.specs.Prelude.{◌≡◌, ℕ, suc, ◌+◌, ◌-◌, ◌*◌, ◌^◌, ◌<◌, ◌≤◌, List, length, get_or, Option, ℤ, pos, ◌+ℤ◌, ◌*ℤ◌, ◌≤ℤ◌, ◌<ℤ◌, unsigned_abs}
use Rattle.std.proofs.Common.{sym, ◌∙◌, ap, subst, arith}
use Rattle.std.proofs.lemmas.Int.{ints, unsigned_abs-mul}
use Rattle.std.proofs.Math.Nat.{mul-le-mul_left}
use Rattle.auction_model.specs.Menu.{without}
use Rattle.auction_model.specs.Book.{menu_of, net_of}
use Rattle.auction_model.specs.Lowered.{of_bidder}
use Rattle.auction_model.specs.Prices.{everyone, sum_over}
use Rattle.bid_book.specs.Kept.{IsBidBook}
use Rattle.cert_grammar.specs.Certificate.{CertValue}
use Rattle.cert_grammar.specs.CertText.{AllInRange}
use Rattle.cert_soundness.specs.Tests.{C9, bidders_of, lowered_net}
use Rattle.cert_check.specs.Fields.{IsOf}
use Rattle.cert_check.specs.declared.claim.Claim.{Claim}
use Rattle.table_check.specs.Worths.{worth_with}
use Rattle.cert_check.specs.Gains.{CanLower, gain_of}
use Rattle.table_check.specs.LineTests.{TableAt}
use Rattle.cert_check.specs.Places.{IsFirstFailing}
use Rattle.cert_check.proofs.HeadLaws.{number-known}
use Rattle.cert_check.proofs.PlaceTests.{failing-same}
use Rattle.table_check.proofs.TableLines.{in-range}
use Rattle.cert_check.proofs.ValueLaws.{obeys-all, obeys-none_less}
use Rattle.cert_check.proofs.Worths.{lowered-worth, table-same}

-- the test of the table with these gains is that of each certificate of the claim
pub lowered-answer : (a : Claim) (c : CertValue) (pay gains : List ℤ) (table : List (List ℤ)) (most : ℤ) (r : Option ℕ) → IsOf a c → c.pay ≡ pay
    → c.lowered ≡ table
    → ((j : ℕ) → 0 < j → j ≤ bidders_of a.book.now → of_bidder gains j ≡ gain_of a.book.now a.den a.choice.now pay j)
    → most ≡ sum_over everyone (of_bidder pay) (bidders_of a.book.now) → IsFirstFailing
    (TableAt (without (menu_of a.book.now) 0) (worth_with a.book.now a.den gains) a.book.now.supply table most) r → IsFirstFailing (C9 a.book.now c) r
lowered-answer a c pay gains table most r is pay_is table_is gains_are most_is f =
    let book = a.book.now in
    let own : (j : ℕ) → 0 < j → j ≤ bidders_of a.book.now → of_bidder gains j ≡ gain_of a.book.now c.den c.choice c.pay j =
    rw (is.den_is, is.choice_is, pay_is) gains_are in
    failing-same (TableAt (without (menu_of book) 0) (lowered_net book c) book.supply c.lowered most) (C9 book c)
    (λ n t. record {
      rules = λ k s le lt e. obeys-all (menu_of book) (lowered_net book c) book.supply c.lowered k s (t.rules k s le lt e);
      top = λ e. rw (most_is, sym pay_is) at (t.top e);
    })
    (λ n t. record {
      rules = λ k s le lt e. obeys-none_less (menu_of book) (lowered_net book c) book.supply c.lowered k s (t.rules k s le lt e);
      top = λ e. rw (most_is, sym pay_is) (t.top e);
    }) r
    (table-same (without (menu_of book) 0) (worth_with book c.den gains) (lowered_net book c) book.supply c.lowered most r (lowered-worth book c gains own)
    (subst (λ (z : ℤ). IsFirstFailing (TableAt (without (menu_of book) 0) (worth_with book z gains) book.supply c.lowered most) r) (sym is.den_is)
    (subst (λ (t : List (List ℤ)). IsFirstFailing (TableAt (without (menu_of book) 0) (worth_with book a.den gains) book.supply t most) r) (sym table_is) f)))

-- the product of the denominator and a net amount that isn't above the value
pub scaled-small : (den net value : ℤ) → pos 1 ≤ℤ den → pos 0 ≤ℤ net → net ≤ℤ value → (den *ℤ (value +ℤ pos 1)) <ℤ pos (2 ^ 120)
    → unsigned_abs (den *ℤ net) < 2 ^ 120
scaled-small den net value some least most size =
    let N = unsigned_abs net in
    let V = unsigned_abs value in
    let D = unsigned_abs den in
    let low : N ≤ V + 1 = omega (arith, ints, least, most) in
    let next : unsigned_abs (value +ℤ pos 1) ≡ V + 1 = omega (arith, ints, least, most) in
    let product : unsigned_abs (den *ℤ (value +ℤ pos 1)) ≡ D * (V + 1) = unsigned_abs-mul den (value +ℤ pos 1) ∙ ap (λ (n : ℕ). D * n) next in
    let bound : D * (V + 1) < 2 ^ 120 = sized den (value +ℤ pos 1) D (V + 1) (omega (arith, ints, some)) (omega (arith, ints, least, most)) size in
    rw (unsigned_abs-mul den net) (omega (arith, bound, mul-le-mul_left D low))
  where
    sized : (a b : ℤ) (m n : ℕ) → a ≡ pos m → b ≡ pos n → (a *ℤ b) <ℤ pos (2 ^ 120) → m * n < 2 ^ 120
    sized a b m n a_is b_is h = let k = rw (a_is, b_is) at h in omega (arith, ints, k)

-- no product that the lowered worths need is too large
pub can-lower : (a : Claim) (pay : List ℤ) → IsBidBook a.book.now → length pay ≡ bidders_of a.book.now → AllInRange pay
    → CanLower a.book.now a.den a.choice.now pay
can-lower a pay kept many range = record {
  numbers = a.shown.count;
  payments = many;
  known = number-known a kept;
  nets = λ j i some inside known.
      let net = a.shown.nets j i some inside known in
      scaled-small a.den (net_of a.book.now j i) a.value a.shown.den_least net.0 net.1 a.shown.small;
  paid = λ j. in-range pay range (j - 1);
}

-- the payments of the first bidders
pub record IsPaidTo (payments : List ℤ) (k : ℕ) (sum : ℤ) : Type 0 where
  -- it is the sum of the payments of the first k bidders
  pub sum_is : sum ≡ sum_over everyone (of_bidder payments) k
  -- it is within what k numbers of the range can sum to
  pub size : unsigned_abs sum ≤ k * 2 ^ 120

-- the payment of one bidder more is added
pub paid-next : (payments : List ℤ) (k : ℕ) (sum : ℤ) → AllInRange payments → IsPaidTo payments k sum
    → IsPaidTo payments (k + 1) (sum +ℤ get_or payments k (pos 0))
paid-next payments k sum all to =
    let up : suc k ≡ k + 1 = omega arith in
    let small = in-range payments all k in
    let size = to.size in
    let here : get_or payments k (pos 0) ≡ of_bidder payments (suc k) = ap (λ (n : ℕ). get_or payments n (pos 0)) (omega arith) in
    let sum_is = to.sum_is in
    subst (λ (n : ℕ). IsPaidTo payments n (sum +ℤ get_or payments k (pos 0))) up (record {
      sum_is = omega (arith, ints, sum_is, here);
      size = omega (arith, ints, small, size);
    })

-- a sum of few payments with one more fits 128 bits
pub paid-small : (payments : List ℤ) (k : ℕ) (sum : ℤ) → AllInRange payments → IsPaidTo payments k sum → k < 16
    → unsigned_abs (sum +ℤ get_or payments k (pos 0)) < 2 ^ 127
paid-small payments k sum all to few =
    let small = in-range payments all k in
    let size = to.size in
    omega (arith, ints, small, size, few)
