-- The row of a block: its bits, its bound, and that the bound is the greatest for its set.
use Rattle.std.specs.Prelude.{◌≡◌, ℕ, zero, suc, ◌+◌, ◌-◌, ◌<◌, ◌≤◌, Bool, true, false, cond, not, ◌&&◌, IsTrue, List, ℤ, pos, ◌+ℤ◌, ◌-ℤ◌, ◌*ℤ◌, ◌≤ℤ◌, refl}
use Rattle.std.proofs.Common.{sym, ◌∙◌, ap, arith}
use Rattle.std.proofs.lemmas.Int.{ints}
use Rattle.auction_model.specs.Market.{Market, value_of, sum_after, uses, worth_in}
use Rattle.auction_model.specs.Greatest.{IsFirstGreatest, IsWinning}
use Rattle.auction_model.specs.Lawful.{IsMarket}
use Rattle.auction_model.specs.Lowered.{of_bidder, lowered}
use Rattle.auction_model.specs.Prices.{Point, sum_over, paid}
use Rattle.auction_model.specs.Blocks.{IsIdleSet, excess_of, row_bound, IsTakenBlock}
use Rattle.wide_num.specs.Sums.{total}
use Rattle.wide_num.proofs.Ints.{mul-add}
use Rattle.wide_num.proofs.Sums.{total-same, total-scale, total-zero}
use Rattle.projection_laws.proofs.Order.{mul_nonneg, cancel_nonneg}
use Rattle.core_laws.specs.Winners.{idle_row, has_member, bits_after, has_bit}
use Rattle.core_laws.proofs.Sums.{over-is, choice-is}
use Rattle.core_laws.proofs.Excess.{IsPaid, low-reached, low-most}
use Rattle.core_laws.proofs.Bits.{bits-hold}

-- sums over two sets with the same members up to n are equal
pub over-same : (s t : ℕ → Bool) (f : ℕ → ℤ) (n : ℕ) → ((j : ℕ) → 0 < j → j ≤ n → s j ≡ t j) → sum_over s f n ≡ sum_over t f n
over-same s t f zero h = refl
over-same s t f (suc n) h =
    let a = over-same s t f n (λ j p q. h j p (omega arith)) in
    let b = ap (λ x. cond x (f (suc n)) (pos 0)) (h (suc n) (omega arith) (omega arith)) in
    omega (arith, ints)

-- a choice has equal excesses over two sets with the same bidders
pub excess-same : (m : Market) (z : List ℕ) (p : Point) (s t : ℕ → Bool) (f : List ℕ) → ((j : ℕ) → 0 < j → j ≤ m.bidders → s j ≡ t j)
    → excess_of m z p s f ≡ excess_of m z p t f
excess-same m z p s t f h =
    let a = over-same (λ j. not (s j)) (λ j. not (t j)) (λ j. p.den *ℤ worth_in m z j) m.bidders (λ j q r. ap not (h j q r)) in
    let b = over-same s t (of_bidder p.at) m.bidders h in
    omega (arith, ints)

-- if a choice doesn't use the winners of a set, so it is for a set with the same bidders
pub idle-same : (m : Market) (z f : List ℕ) (s t : ℕ → Bool) → ((j : ℕ) → 0 < j → j ≤ m.bidders → s j ≡ t j) → IsIdleSet m z f s → IsIdleSet m z f t
idle-same m z f s t h idle j q r e = idle j q r (h j q r ∙ e)

-- the block is the same for a set with the same bidders
pub taken-same : (m : Market) (z : List ℕ) (p : Point) (f : List ℕ) (s t : ℕ → Bool) (x : ℤ) → ((j : ℕ) → 0 < j → j ≤ m.bidders → s j ≡ t j)
    → IsTakenBlock m z p f s x → IsTakenBlock m z p f t x
taken-same m z p f s t x h b = record {
  greatest = b.greatest;
  allowed = b.allowed;
  idle = idle-same m z f s t h b.idle;
  reached = sym (excess-same m z p s t f h) ∙ b.reached;
  first = b.first;
  largest = λ o idle e j q r k. sym (h j q r) ∙ b.largest o idle e j q r k;
}

-- the bits of the idle row are its bidders
pub bits-are_row : (m : Market) (z : List ℕ) (p : Point) (f : List ℕ) (j : ℕ) → 0 < j → has_member z (bits_after z (idle_row m z p f) 0) j ≡ idle_row m z p f j
bits-are_row m z p f zero some = absurd (omega arith)
bits-are_row m z p f (suc k) some =
    let e : suc k - 1 ≡ k = omega arith in
    let o : 0 + k ≡ k = omega arith in
    ap (has_bit z (bits_after z (idle_row m z p f) 0)) e ∙ bits-hold z (idle_row m z p f) 0 k ∙ ap (λ t. uses z (suc k) && idle_row m z p f (suc t)) o
    ∙ twice (uses z (suc k)) _
  where
    twice : (a b : Bool) → (a && (a && b)) ≡ (a && b)
    twice true b = refl
    twice false b = refl

-- den times the bound is the excess and what the set pays
pub excess-bound : (m : Market) (z : List ℕ) (p : Point) (s : ℕ → Bool) (f : List ℕ) → excess_of m z p s f ≡ p.den *ℤ row_bound m z s f -ℤ sum_over s
    (of_bidder p.at) m.bidders
excess-bound m z p s f =
    let d = p.den in
    let o = over-is (λ j. not (s j)) (λ j. d *ℤ worth_in m z j) m.bidders in
    let u = over-is (λ j. not (s j)) (worth_in m z) m.bidders in
    let c = total-same m.bidders (λ k. cond (not (s (suc k))) (d *ℤ worth_in m z (suc k)) (pos 0))
    (λ k. d *ℤ cond (not (s (suc k))) (worth_in m z (suc k)) (pos 0)) (λ k lt. inside (not (s (suc k))) d (worth_in m z (suc k))) in
    let w = total-scale m.bidders d (λ k. cond (not (s (suc k))) (worth_in m z (suc k)) (pos 0)) in
    let v = value_of m f in
    let y = sum_over (λ j. not (s j)) (worth_in m z) m.bidders in
    let yy = ap (λ (t : ℤ). d *ℤ t) u in
    let q : d *ℤ (v -ℤ y) ≡ d *ℤ v -ℤ d *ℤ y = apart d v y in
    omega (arith, ints)
  where
    inside : (b : Bool) (d x : ℤ) → cond b (d *ℤ x) (pos 0) ≡ d *ℤ cond b x (pos 0)
    inside true d x = refl
    inside false d x = omega (arith, ints)

    apart : (d v y : ℤ) → d *ℤ (v -ℤ y) ≡ d *ℤ v -ℤ d *ℤ y
    apart d v y = let e = mul-add d (v -ℤ y) y in let f : v -ℤ y +ℤ y ≡ v = omega (arith, ints) in let g = ap (λ (t : ℤ). d *ℤ t) f in omega (arith, ints)

-- of two choices that avoid a set, the one with the greater excess over it has the greater bound
pub bound-by_excess : (m : Market) (z : List ℕ) (p : Point) (s : ℕ → Bool) (f g : List ℕ) → pos 1 ≤ℤ p.den → excess_of m z p s g ≤ℤ excess_of m z p s f
    → row_bound m z s g ≤ℤ row_bound m z s f
bound-by_excess m z p s f g dp h =
    let d = p.den in
    let a = excess-bound m z p s f in
    let b = excess-bound m z p s g in
    let x = row_bound m z s f in
    let y = row_bound m z s g in
    let e = mul-add d (x -ℤ y) y in
    let k : x -ℤ y +ℤ y ≡ x = omega (arith, ints) in
    let l = ap (λ (t : ℤ). d *ℤ t) k in
    let c = cancel_nonneg d (x -ℤ y) (omega (arith, ints)) (omega (arith, ints)) in
    omega (arith, ints)

module _ (m : Market) (lawful : IsMarket m) (z : List ℕ) (p : Point) (dp : pos 1 ≤ℤ p.den) (surplus : List ℤ) (own : IsPaid m z p surplus) (f : List ℕ)
    (best : IsFirstGreatest m.allowed (sum_after (lowered p.den m.worth surplus) 0) f) where
  -- the bound is the greatest for its set
  pub bound-greatest : (g : List ℕ) → IsTrue (m.allowed g) → IsIdleSet m z g (idle_row m z p f) → row_bound m z (idle_row m z p f) g ≤ℤ row_bound m z
      (idle_row m z p f) f
  bound-greatest g t idle =
      let a = low-most m lawful z p surplus own g (idle_row m z p f) t idle in
      let b = best.greatest g t in
      let c = low-reached m lawful z p surplus own f best.passed in
      bound-by_excess m z p (idle_row m z p f) f g dp (omega (arith, ints))

  -- an empty row has no excess
  pub row-not_empty : IsWinning m z → ((j : ℕ) → 0 < j → j ≤ m.bidders → idle_row m z p f j ≡ false) → sum_after (lowered p.den m.worth surplus) 0 f ≤ℤ paid m p
  row-not_empty win none =
      let c = low-reached m lawful z p surplus own f best.passed in
      let e = excess-same m z p (idle_row m z p f) (λ j. false) f none in
      let x = excess-bound m z p (λ j. false) f in
      let y = over-is (λ j. false) (of_bidder p.at) m.bidders in
      let w = total-zero m.bidders (λ k. pos 0) (λ k lt. refl) in
      let v = win.greatest f best.passed in
      let u = over-is (λ j. true) (worth_in m z) m.bidders in
      let s : value_of m z ≡ total m.bidders (λ k. worth_in m z (suc k)) = choice-is m.worth z ∙ ap (λ n. total n (λ k. worth_in m z (suc k)))
      (lawful.lengths z win.passed) in
      let b : row_bound m z (λ j. false) f ≤ℤ pos 0 = omega (arith, ints) in
      let q = mul_nonneg p.den (pos 0 -ℤ row_bound m z (λ j. false) f) (omega (arith, ints)) (omega (arith, ints)) in
      let r = mul-add p.den (pos 0 -ℤ row_bound m z (λ j. false) f) (row_bound m z (λ j. false) f) in
      let k : pos 0 -ℤ row_bound m z (λ j. false) f +ℤ row_bound m z (λ j. false) f ≡ pos 0 = omega (arith, ints) in
      let l = ap (λ (t : ℤ). p.den *ℤ t) k in
      omega (arith, ints)
