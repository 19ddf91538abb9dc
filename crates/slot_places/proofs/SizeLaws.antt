-- What fits after a set is placed: the bidders of the set go first, each with 0.
use Rattle.std.specs.Prelude.{Bool, IsTrue, List, [], cond, false, get_or, length, nat_le, pos, refl, suc, true, unsigned_abs, zero, ℕ, ℤ, ◌&&◌, ◌*◌}
use Rattle.std.specs.Prelude.{◌+◌, ◌-◌, ◌<◌, ◌^◌, ◌∷◌, ◌≡◌, ◌≤◌, ◌⊎◌}
use Rattle.std.proofs.Common.{inl, inr, sym, ◌∙◌, ap, arith, subst}
use Rattle.std.proofs.lemmas.Bool.{and_from, and_right, le-leb, lt-leb, cases_Bool, cases_eq, cases_lt}
use Rattle.std.proofs.lemmas.Int.{ints, unsigned_abs-mul}
use Rattle.auction_model.specs.Lowered.{lowered, of_bidder, sum_to}
use Rattle.auction_model.specs.Market.{number_of, sum_after}
use Rattle.auction_model.proofs.BoundLaws.{abs-idle}
use Rattle.slot_places.specs.Board.{Board, nobody, joined, outside, is_known, can_place, is_placed}
use Rattle.slot_places.specs.SetTable.{fits_behind, counts_outside, sum_outside, StaysInRange}
use Rattle.slot_places.proofs.SetLaws.{joined-self, joined-other, outside-joined, outside-nobody}
use Rattle.slot_places.proofs.PlaceLaws.{next-from}
use Rattle.slot_places.proofs.StepLaws.{Fits, fits-says, fits-length, idle-at}
use Rattle.slot_places.proofs.SameLaws.{IsSame, AsksBidders, outside-same, place-same}

-- those of a set up to bidder k
abbrev up_to : (ℕ → Bool) → ℕ → ℕ → Bool
up_to s k i = s i && nat_le i k

up_to-low : (s : ℕ → Bool) (k i : ℕ) → i ≤ k → up_to s k i ≡ s i
up_to-low s k i low = ap (λ x. s i && x) (le-leb i k low) ∙ true-right (s i)
  where
    true-right : (x : Bool) → x && true ≡ x
    true-right true = refl
    true-right false = refl

up_to-past : (s : ℕ → Bool) (k i : ℕ) → k < i → up_to s k i ≡ false
up_to-past s k i past = and_right (s i) (nat_le i k) (lt-leb i k past)

module _ (b : Board) (asks : AsksBidders b) (idle : (s : ℕ → Bool) (j : ℕ) → IsTrue (b.may s j 0)) (s : ℕ → Bool) (c : List ℕ)
    (within : (i : ℕ) → b.bidders < i → s i ≡ false) (zeros : (j : ℕ) → 0 < j → j ≤ b.bidders → s j ≡ true → number_of c j ≡ 0) where
  -- up to the last bidder it is the whole set
  up_to-all : (k : ℕ) → k ≡ b.bidders → IsSame s (up_to s k)
  up_to-all k e i some =
      elim (cases_lt k i) [
        | inl past ↦ within i (omega (arith, past, e)) ∙ sym (up_to-past s k i past)
        | inr low ↦ sym (up_to-low s k i low)
      ]

  up_to-in : (k : ℕ) → s (suc k) ≡ true → IsSame (up_to s (suc k)) (joined (suc k) (up_to s k))
  up_to-in k t i some =
      elim (cases_eq i (suc k)) [
        | inl same ↦ subst (λ h. up_to s (suc k) h ≡ joined (suc k) (up_to s k) h) (sym same)
            (up_to-low s (suc k) (suc k) (omega arith) ∙ (t ∙ sym (joined-self (suc k) (up_to s k))))
        | inr other ↦
            elim (cases_lt k i) [
              | inl past ↦ up_to-past s (suc k) i (omega (arith, past, other)) ∙ sym (joined-other (suc k) (up_to s k) i other ∙ up_to-past s k i past)
              | inr low ↦ up_to-low s (suc k) i (omega (arith, low)) ∙ sym (joined-other (suc k) (up_to s k) i other ∙ up_to-low s k i low)
            ]
      ]

  up_to-out : (k : ℕ) → s (suc k) ≡ false → IsSame (up_to s (suc k)) (up_to s k)
  up_to-out k f i some =
      elim (cases_eq i (suc k)) [
        | inl same ↦ subst (λ h. up_to s (suc k) h ≡ up_to s k h) (sym same) (up_to-low s (suc k) (suc k) (omega arith)
            ∙ (f ∙ sym (up_to-past s k (suc k) (omega arith))))
        | inr other ↦
            elim (cases_lt k i) [
              | inl past ↦ up_to-past s (suc k) i (omega (arith, past, other)) ∙ sym (up_to-past s k i past)
              | inr low ↦ up_to-low s (suc k) i (omega (arith, low)) ∙ sym (up_to-low s k i low)
            ]
      ]

  -- those up to k go first, and then the others of the set
  reach : (n k : ℕ) → k + n ≡ b.bidders → IsTrue (can_place b c (outside s b.bidders) s) → IsTrue (can_place b c (outside (up_to s k) b.bidders) (up_to s k))
  reach zero k e t =
      let same = up_to-all k (omega (arith, e)) in
      ap (λ m. can_place b c m (up_to s k)) (sym (outside-same s (up_to s k) b.bidders same))
      ∙ (sym (place-same b asks c (outside s b.bidders) s (up_to s k) same) ∙ t)
  reach (suc n) k e t = by (reach n (suc k) (omega (arith, e)) t) (cases_Bool (s (suc k)))
    where
      by : IsTrue (can_place b c (outside (up_to s (suc k)) b.bidders) (up_to s (suc k))) → (s (suc k) ≡ true) ⊎ (s (suc k) ≡ false)
          → IsTrue (can_place b c (outside (up_to s k) b.bidders) (up_to s k))
      by rest (inl in_set) =
          let same = up_to-in k in_set in
          let m = joined (suc k) (up_to s k) in
          let new = up_to-past s k (suc k) (omega arith) in
          let more = outside-joined (suc k) (up_to s k) b.bidders (omega arith) (omega (arith, e)) new in
          let none = zeros (suc k) (omega arith) (omega (arith, e)) in_set in
          let after : IsTrue (can_place b c (outside m b.bidders) m) =
          ap (λ x. can_place b c x m) (sym (outside-same (up_to s (suc k)) m b.bidders same))
          ∙ (sym (place-same b asks c (outside (up_to s (suc k)) b.bidders) (up_to s (suc k)) m same) ∙ rest) in
          subst (λ x. IsTrue (can_place b c x (up_to s k))) (sym more)
          (next-from b c (outside m b.bidders) (up_to s k) (suc k) (record {
            some = omega arith;
            low = omega (arith, e);
            new = new;
            may = subst (λ x. IsTrue (b.may (up_to s k) (suc k) x)) (sym none) (idle (up_to s k) (suc k));
            rest = after;
          }))
      by rest (inr out) =
          let same = up_to-out k out in
          ap (λ x. can_place b c x (up_to s k)) (sym (outside-same (up_to s (suc k)) (up_to s k) b.bidders same))
          ∙ (sym (place-same b asks c (outside (up_to s (suc k)) b.bidders) (up_to s (suc k)) (up_to s k) same) ∙ rest)

  -- if those outside the set can be placed after it, all bidders can be placed after nobody
  pub place-whole : IsTrue (can_place b c (outside s b.bidders) s) → IsTrue (can_place b c b.bidders nobody)
  place-whole t =
      let same : IsSame (up_to s 0) nobody = λ i some. up_to-past s 0 i some in
      let all : outside (up_to s 0) b.bidders ≡ b.bidders = outside-same (up_to s 0) nobody b.bidders same ∙ outside-nobody b.bidders in
      sym (place-same b asks c b.bidders (up_to s 0) nobody same) ∙ subst (λ m. IsTrue (can_place b c m (up_to s 0))) all (reach b.bidders 0 (omega arith) t)

-- a choice that fits after a set is placed
pub fits-placed : (b : Board) → AsksBidders b → ((s : ℕ → Bool) (j : ℕ) → IsTrue (b.may s j 0)) → (s : ℕ → Bool) (c : List ℕ)
    → ((i : ℕ) → b.bidders < i → s i ≡ false) → IsTrue (fits_behind b s c) → IsTrue (is_placed b c)
fits-placed b asks idle s c within t =
    let f = fits-says b s c t in
    let count = fits-length b s c t in
    and_from (is_known b c) (can_place b c b.bidders nobody) f.known (place-whole b asks idle s c within (zeros f count) f.place)
  where
    zeros : Fits b s c → length c ≡ b.bidders → (j : ℕ) → 0 < j → j ≤ b.bidders → s j ≡ true → number_of c j ≡ 0
    zeros f count j some low t =
        let at : j ≡ suc (0 + (j - 1)) = omega (arith, some) in
        idle-at s 0 c (j - 1) f.idle (omega (arith, count, some, low)) (subst (λ h. s h ≡ true) at t)

-- what one bidder and all together can count
pub sum_to-term : (f : ℕ → ℕ) (n j : ℕ) → 0 < j → j ≤ n → f j ≤ sum_to f n
sum_to-term f zero j some low = absurd (omega (arith, some, low))
sum_to-term f (suc n) j some low =
    elim (cases_eq j (suc n)) [
      | inl same ↦ rw same (omega arith)
      | inr other ↦ let rest = sum_to-term f n j some (omega (arith, low, other)) in omega (arith, rest)
    ]

-- a sum is no greater in size than the bounds of its terms together
pub sum-size : (f : ℕ → ℕ → ℤ) (caps : ℕ → ℕ) (k : ℕ) (c : List ℕ) → ((i : ℕ) → i < length c → unsigned_abs (f (suc (k + i)) (get_or c i 0)) ≤ caps
    (suc (k + i))) → sum_to caps k + unsigned_abs (sum_after f k c) ≤ sum_to caps (k + length c)
sum-size f caps k [] all = let e : k + 0 ≡ k = omega arith in rw e (omega arith)
sum-size f caps k (x ∷ c) all =
    let zero_at : suc (k + 0) ≡ suc k = omega arith in
    let own : unsigned_abs (f (suc k) x) ≤ caps (suc k) = rw zero_at at (all 0 (omega arith)) in
    let rest = sum-size f caps (suc k) c (λ i inside. let e : suc (k + suc i) ≡ suc (suc k + i) = omega arith in
    rw e at (all (suc i) (omega (arith, inside)))) in
    let e : k + suc (length c) ≡ suc k + length c = omega arith in
    rw e (omega (arith, ints, own, rest))

lowered-size : (den : ℤ) (worth : ℕ → ℕ → ℤ) (surplus : List ℤ) (j i : ℕ) → unsigned_abs (lowered den worth surplus j i) ≤ unsigned_abs den * unsigned_abs
    (worth j i) + unsigned_abs (of_bidder surplus j)
lowered-size den worth surplus j zero = let a = abs-idle (of_bidder surplus j) in omega (arith, a)
lowered-size den worth surplus j (suc i) =
    let m = unsigned_abs-mul den (worth j (suc i)) in
    omega (arith, ints, m)

outside-size : (s : ℕ → Bool) (counts : ℕ → ℕ → ℤ) (j i n : ℕ) → unsigned_abs (counts j i) ≤ n → unsigned_abs (counts_outside s counts j i) ≤ n
outside-size s counts j i n low = by (s j)
  where
    by : (x : Bool) → unsigned_abs (cond x (pos 0) (counts j i)) ≤ n
    by true = omega arith
    by false = low

module _ (b : Board) (asks : AsksBidders b) (idle : (s : ℕ → Bool) (j : ℕ) → IsTrue (b.may s j 0)) (worth : ℕ → ℕ → ℤ) (den : ℤ) (surplus : List ℤ)
    (range : StaysInRange b worth den surplus) (s : ℕ → Bool) (c : List ℕ) (within : (i : ℕ) → b.bidders < i → s i ≡ false)
    (fits : IsTrue (fits_behind b s c)) where
  abbrev caps : ℕ → ℕ
  caps j = unsigned_abs den * unsigned_abs (worth j (number_of c j)) + unsigned_abs (of_bidder surplus j)

  all-size : sum_to caps b.bidders ≤ 2 ^ 120
  all-size = range c (fits-placed b asks idle s c within fits)

  -- a bid of a choice that fits after a set stays in the range, with the denominator and the surplus
  pub own-size : (j : ℕ) → 0 < j → j ≤ b.bidders → unsigned_abs den * unsigned_abs (worth j (number_of c j)) + unsigned_abs (of_bidder surplus j) ≤ 2 ^ 120
  own-size j some low = let a = sum_to-term caps b.bidders j some low in let m = all-size in omega (arith, a, m)

  -- what a choice that fits after a set counts outside it stays in the range
  pub whole-size : unsigned_abs (sum_outside s (lowered den worth surplus) c) ≤ 2 ^ 120
  whole-size =
      let counts = lowered den worth surplus in
      let count = fits-length b s c fits in
      let each : (i : ℕ) → i < length c → unsigned_abs (counts_outside s counts (suc (0 + i)) (get_or c i 0)) ≤ caps (suc (0 + i)) = λ i inside.
      let e : suc (0 + i) - 1 ≡ i = omega arith in
      outside-size s counts (suc (0 + i)) (get_or c i 0) (caps (suc (0 + i))) (subst
      (λ h. unsigned_abs (counts (suc (0 + i)) (get_or c i 0)) ≤ unsigned_abs den * unsigned_abs (worth (suc (0 + i)) (get_or c h 0)) + unsigned_abs
      (of_bidder surplus (suc (0 + i)))) (sym e) (lowered-size den worth surplus (suc (0 + i)) (get_or c i 0))) in
      let sum = sum-size (counts_outside s counts) caps 0 c each in
      let same : 0 + length c ≡ b.bidders = omega (arith, count) in
      let most : 0 + unsigned_abs (sum_after (counts_outside s counts) 0 c) ≤ sum_to caps b.bidders = rw same at sum in
      let m = all-size in
      omega (arith, most, m)
