-- The rows of a certificate as coefficients and bounds, in any market. The payments are tight at each, and each core point meets each.
use Rattle.std.specs.Prelude.{◌≡◌, ℕ, zero, suc, ◌<◌, Bool, true, false, cond, not, ◌==◌, IsTrue, List, length, ℤ, pos, ◌+ℤ◌, ◌-ℤ◌, ◌*ℤ◌, ◌≤ℤ◌, refl}
use Rattle.std.proofs.Common.{sym, ◌∙◌, ap, arith}
use Rattle.std.proofs.lemmas.Bool.{false≢true, not_from_false, false_from_ne_true}
use Rattle.std.proofs.lemmas.Int.{ints}
use Rattle.auction_model.specs.Market.{Market, number_of, uses, worth_in}
use Rattle.auction_model.specs.Lowered.{of_bidder}
use Rattle.auction_model.specs.Prices.{IsCorePoint, Point, everyone, offer, paid, sum_over}
use Rattle.auction_model.specs.Blocks.{excess_of, row_bound}
use Rattle.wide_num.specs.Sums.{dot}
use Rattle.wide_num.proofs.Sums.{total-same}
use Rattle.projection_laws.specs.Points.{MeetsExactly, MeetsRows}
use Rattle.core_laws.proofs.Sums.{over-is}
use Rattle.core_laws.proofs.Rows.{excess-bound}
use Rattle.cert_grammar.specs.Certificate.{CertValue, RowValue, is_member, row_of}
use Rattle.cert_soundness.specs.MarketTests.{sum_holding, HasTightRow, IsTight as IsTightRow}

-- 1 if row i + 1 holds bidder j + 1, else 0
abbrev pub coefficient : List RowValue → ℕ → ℕ → ℤ
coefficient rows i j = cond (is_member (row_of rows (suc i)).members (suc j)) (pos 1) (pos 0)

one_times : (b : Bool) (x : ℤ) → cond b (pos 1) (pos 0) *ℤ x ≡ cond b x (pos 0)
one_times true x = omega (arith, ints)
one_times false x = omega (arith, ints)

-- a number times 1 or 0 is the number or 0
pub times_one : (b : Bool) (x : ℤ) → x *ℤ cond b (pos 1) (pos 0) ≡ cond b x (pos 0)
times_one true x = omega (arith, ints)
times_one false x = omega (arith, ints)

-- what the members of row i + 1 pay
pub members-pay : (rows : List RowValue) (i n : ℕ) (at : List ℤ) → dot n (coefficient rows i) (λ j. of_bidder at (suc j)) ≡ sum_over
    (is_member (row_of rows (suc i)).members) (of_bidder at) n
members-pay rows i n at =
    let holds = is_member (row_of rows (suc i)).members in
    total-same n (λ j. coefficient rows i j *ℤ of_bidder at (suc j)) (λ j. cond (holds (suc j)) (of_bidder at (suc j)) (pos 0))
    (λ j lt. one_times (holds (suc j)) (of_bidder at (suc j)))
    ∙ sym (over-is holds (of_bidder at) n)

-- the numbers of the rows that contain bidder j + 1
pub holding-is : (rows : List RowValue) (j : ℕ) (number : RowValue → ℤ) (n : ℕ) → sum_holding rows (suc j) number n ≡ dot n
    (λ i. number (row_of rows (suc i))) (λ i. coefficient rows i j)
holding-is rows j number zero = refl
holding-is rows j number (suc n) =
    let a = holding-is rows j number n in
    let b = times_one (is_member (row_of rows (suc n)).members (suc j)) (number (row_of rows (suc n))) in
    omega (arith, ints, a, b)

split_one : (b : Bool) (x y : ℤ) → cond (not b) (x -ℤ y) (pos 0) +ℤ y ≡ cond (not b) x (pos 0) +ℤ cond b y (pos 0)
split_one true x y = omega (arith, ints)
split_one false x y = omega (arith, ints)

split : (s : ℕ → Bool) (f g : ℕ → ℤ) (n : ℕ) → sum_over (λ j. not (s j)) (λ j. f j -ℤ g j) n +ℤ sum_over everyone g n ≡ sum_over
    (λ j. not (s j)) f n +ℤ sum_over s g n
split s f g zero = refl
split s f g (suc n) =
    let a = split s f g n in
    let b = split_one (s (suc n)) (f (suc n)) (g (suc n)) in
    omega (arith, ints, a, b)

-- what all bidders outside a set offer is, beyond all payments, the excess over the set
pub offer-outside : (m : Market) (z : List ℕ) (p : Point) (s : ℕ → Bool) (f : List ℕ) → offer m z p (λ j. not (s j)) f -ℤ paid m p ≡ excess_of m z p s f
offer-outside m z p s f = let a = split s (λ j. p.den *ℤ worth_in m z j) (of_bidder p.at) m.bidders in omega (arith, ints, a)

-- if a choice uses no member, a bidder that it uses is none
pub unused-one : (c : List ℕ) (j : ℕ) (member : Bool) → (IsTrue member → number_of c j ≡ 0) → IsTrue (uses c j) → IsTrue (not member)
unused-one c j member unused used = not_from_false member (false_from_ne_true member (λ is. false≢true (sym (ap (λ (n : ℕ). not (n == 0)) (unused is)) ∙ used)))

-- what the choice of row i + 1 asks of its members
abbrev pub bound : Market → CertValue → ℕ → ℤ
bound m c i = row_bound m c.choice (is_member (row_of c.rows (suc i)).members) (row_of c.rows (suc i)).choice

module _ (m : Market) (c : CertValue) (rows : (place : ℕ) → HasTightRow m c place) where
  -- each row of the certificate is tight
  pub row-at : (i : ℕ) → i < length c.rows → IsTightRow m c (row_of c.rows (suc i))
  row-at i lt = (rows (suc i)).row (omega arith) (omega (arith, lt))

  -- the payments are tight at each row
  pub tight : (i : ℕ) → i < length c.rows → MeetsExactly m.bidders (coefficient c.rows i) (bound m c i) c.den (λ j. of_bidder c.pay (suc j))
  tight i lt = members-pay c.rows i m.bidders c.pay ∙ (row-at i lt).tight

  -- each core point meets all rows
  pub meets : (q : Point) → IsCorePoint m c.choice q → MeetsRows m.bidders (length c.rows) (coefficient c.rows) (bound m c) q.den (λ j. of_bidder q.at (suc j))
  meets q point = record {
    positive = (let p = point.den_positive in omega (arith, ints, p));
    above = λ i lt.
        let row = row_of c.rows (suc i) in
        let holds = is_member row.members in
        let r = row-at i lt in
        let free : offer m c.choice q (λ j. not (holds j)) row.choice ≤ℤ paid m q =
        point.unblocked (λ j. not (holds j)) row.choice r.allowed (λ j some le used. unused-one row.choice j (holds j) (r.unused j) used) in
        let out = offer-outside m c.choice q holds row.choice in
        let asked = excess-bound m c.choice q holds row.choice in
        let pay = members-pay c.rows i m.bidders q.at in
        omega (arith, ints, free, out, asked, pay);
  }
