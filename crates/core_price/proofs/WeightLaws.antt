-- The weights of the winners, and sums over the winners.
use Rattle.std.specs.Prelude.{◌≡◌, ◌≢◌, ℕ, zero, suc, ◌+◌, ◌-◌, ◌<◌, ◌≤◌, true, false, not, List, [], ◌∷◌, ◌++◌, length, drop, get_or, ℤ, pos, refl}
use Rattle.std.proofs.Common.{sym, ◌∙◌, ap, arith, add-one, append_assoc, drop-cons}
use Rattle.std.proofs.lemmas.Bool.{ne_eqb}
use Rattle.std.proofs.lemmas.Int.{ints}
use Rattle.auction_model.specs.Market.{Market, uses}
use Rattle.auction_model.specs.Prices.{AreWeights, weight_of}
use Rattle.core_laws.specs.Winners.{winners_in}
use Rattle.wide_num.specs.Sums.{total}
use Rattle.wide_num.proofs.Sums.{total-first}
use Rattle.core_laws.specs.Weights.{CanWeigh, WeighAlike, weights_in}
use Rattle.core_price.proofs.Spots.{spot, spot-inside, spot-of, spot-wins}

-- there is one weight for each winner
pub weights-count : (z ws : List ℕ) → length (weights_in z ws) ≡ winners_in z
weights-count [] ws = refl
weights-count (zero ∷ z) [] = weights-count z []
weights-count (zero ∷ z) (w ∷ ws) = weights-count z ws
weights-count (suc i ∷ z) [] = ap suc (weights-count z [])
weights-count (suc i ∷ z) (w ∷ ws) = ap suc (weights-count z ws)

-- the weight of a winner is that of its bidder
pub weights-at : (z ws : List ℕ) (i : ℕ) → i < winners_in z → get_or (weights_in z ws) i 0 ≡ get_or ws (spot z i) 0
weights-at [] ws i lt = absurd (omega arith)
weights-at (zero ∷ z) [] i lt = weights-at z [] i lt
weights-at (zero ∷ z) (w ∷ ws) i lt = weights-at z ws i lt
weights-at (suc n ∷ z) [] zero lt = refl
weights-at (suc n ∷ z) [] (suc i) lt = weights-at z [] i (omega arith)
weights-at (suc n ∷ z) (w ∷ ws) zero lt = refl
weights-at (suc n ∷ z) (w ∷ ws) (suc i) lt = weights-at z ws i (omega arith)

-- the weight of bidder k + 1 is that at place k
pub weight-is : (ws : List ℕ) (k : ℕ) → weight_of ws (suc k) ≡ get_or ws k 0
weight-is ws k = let b : suc k - 1 ≡ k = omega arith in rw b refl

-- if all bidders have weights of 1 to 20, the winners have too
pub can-weigh : (m : Market) (z ws : List ℕ) → length z ≡ m.bidders → AreWeights m.bidders ws → CanWeigh m z ws
can-weigh m z ws len are = record {
  long = are.long;
  own = record { long = weights-count z ws; some = λ i lt. (at i lt).0; most = λ i lt. (at i lt).1 };
}
  where
    at : (i : ℕ) → i < winners_in z → (1 ≤ get_or (weights_in z ws) i 0) × (get_or (weights_in z ws) i 0 ≤ 20)
    at i lt =
        let s = spot-inside z i lt in
        let inside : spot z i < m.bidders = omega (arith, s, len) in
        let d = weights-at z ws i lt in
        rw d (are.some (spot z i) inside, are.most (spot z i) inside)

-- a sum over all bidders, if losers count nothing, is one over the winners
pub sum-spots : (z : List ℕ) (f t : ℕ → ℤ) → ((i : ℕ) → i < winners_in z → f (spot z i) ≡ t i)
    → ((k : ℕ) → k < length z → uses z (suc k) ≡ false → f k ≡ pos 0) → total (length z) f ≡ total (winners_in z) t
sum-spots [] f t won lost = refl
sum-spots (zero ∷ z) f t won lost =
    let rest = sum-spots z (λ k. f (suc k)) t won (λ k lt e. lost (suc k) (omega arith) (let b : suc (suc k) - 1 ≡ suc (suc k - 1) = omega arith in rw b e)) in
    let none = lost zero (omega arith) refl in
    total-first (length z) f ∙ omega (arith, ints, none, rest)
sum-spots (suc n ∷ z) f t won lost =
    let rest = sum-spots z (λ k. f (suc k)) (λ i. t (suc i)) (λ i lt. won (suc i) (omega arith))
    (λ k lt e. lost (suc k) (omega arith) (let b : suc (suc k) - 1 ≡ suc (suc k - 1) = omega arith in rw b e)) in
    let one = won zero (omega arith) in
    let last = total-first (winners_in z) t in
    total-first (length z) f ∙ omega (arith, ints, one, rest, last)

-- the weights of the winners among the first k bidders
pub more-winner : (z ws list : List ℕ) (k : ℕ) → length ws ≡ length z → k < length z → get_or z k 0 ≢ 0
    → list ++ weights_in (drop k z) (drop k ws) ≡ weights_in z ws
    → (list ++ get_or ws k 0 ∷ []) ++ weights_in (drop (k + 1) z) (drop (k + 1) ws) ≡ weights_in z ws
more-winner z ws list k long lt wins made =
    append_assoc list (get_or ws k 0 ∷ []) (weights_in (drop (k + 1) z) (drop (k + 1) ws))
    ∙ ap (λ l. list ++ l) (sym (let lw : k < length ws = omega (arith, lt, long) in by (get_or z k 0) wins (drop k z) (rw (add-one, drop-cons z k 0) refl)
    (drop k ws) (rw (add-one, drop-cons ws k 0) refl)))
    ∙ made
  where
    by : (n : ℕ) → n ≢ 0 → (rest : List ℕ) → rest ≡ n ∷ drop (k + 1) z → (more : List ℕ) → more ≡ get_or ws k 0 ∷ drop (k + 1) ws
        → weights_in rest more ≡ get_or ws k 0 ∷ weights_in (drop (k + 1) z) (drop (k + 1) ws)
    by zero d rest e more f = absurd (d refl)
    by (suc n) d rest e more f = rw (e, f) refl

-- and a loser adds none
pub more-loser : (z ws list : List ℕ) (k : ℕ) → length ws ≡ length z → k < length z → get_or z k 0 ≡ 0
    → list ++ weights_in (drop k z) (drop k ws) ≡ weights_in z ws
    → list ++ weights_in (drop (k + 1) z) (drop (k + 1) ws) ≡ weights_in z ws
more-loser z ws list k long lt loses made =
    ap (λ l. list ++ l) (sym (let lw : k < length ws = omega (arith, lt, long) in by (drop k z) (rw (add-one, drop-cons z k 0, loses) refl) (drop k ws)
    (rw (add-one, drop-cons ws k 0) refl))) ∙ made
  where
    by : (rest : List ℕ) → rest ≡ 0 ∷ drop (k + 1) z → (more : List ℕ) → more ≡ get_or ws k 0 ∷ drop (k + 1) ws
        → weights_in rest more ≡ weights_in (drop (k + 1) z) (drop (k + 1) ws)
    by rest e more f = rw (e, f) refl

-- the winners among the first k bidders weigh 1
abbrev pub AlikeTo : List ℕ → List ℕ → ℕ → Type 0
AlikeTo z ws k = (j : ℕ) → j < k → get_or z j 0 ≢ 0 → get_or ws j 0 ≡ 1

wins-by : (z : List ℕ) (k : ℕ) → uses z (suc k) ≡ true → get_or z k 0 ≢ 0
wins-by z k u e = let b : suc k - 1 ≡ k = omega arith in lie (sym u ∙ rw (b, e) refl)
  where
    lie : true ≡ false → ⊥
    lie h = cc

by-wins : (z : List ℕ) (k : ℕ) → get_or z k 0 ≢ 0 → uses z (suc k) ≡ true
by-wins z k d = let b : suc k - 1 ≡ k = omega arith in rw b (ap not (ne_eqb (get_or z k 0) 0 d))

-- if each bidder that wins weighs 1, all winners weigh 1
pub all-alike : (z ws : List ℕ) (k : ℕ) → k ≡ length z → AlikeTo z ws k → WeighAlike z ws
all-alike z ws k e h i lt = weights-at z ws i lt ∙ h (spot z i) (let s = spot-inside z i lt in omega (arith, s, e)) (wins-by z (spot z i) (spot-wins z i lt))

-- if a bidder that wins weighs something else, not all winners weigh 1
pub not-alike : (z ws : List ℕ) (k : ℕ) → k < length z → get_or z k 0 ≢ 0 → get_or ws k 0 ≢ 1 → WeighAlike z ws → ⊥
not-alike z ws k lt wins d h =
    let s = spot-of z k lt (by-wins z k wins) in
    d (ap (λ n. get_or ws n 0) (sym s.2) ∙ sym (weights-at z ws s.0 s.1) ∙ h s.0 s.1)
