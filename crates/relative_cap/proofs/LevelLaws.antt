-- What is computed once for a list gives the constraining round and the highest amounts.
use Rattle.std.proofs.Common.{List, [], ap, arith, drop, false, get_or, inl, inr, length, map, max, refl, set, subst, suc, sym, true, zero, ℕ, ◌++◌}
use Rattle.std.proofs.Common.{◌+◌, ◌-◌, ◌<◌, ◌^◌, ◌∙◌, ◌∷◌, ◌≡◌, ◌≤◌, ◌⊎◌}
use Rattle.std.specs.Prelude.{slice_index}
use Rattle.std.proofs.lemmas.Bool.{cases_order, cond-true, cond-false}
use Rattle.std.proofs.lemmas.List.{length-map, length-drop, get_or-map, get_or-drop, get_or-set_same, get_or-set_other, drop_more}
use Rattle.auction_model.specs.Book.{BookBid}
use Rattle.auction_rules.specs.Rounds.{OwnRound}
use Rattle.auction_rules.specs.State.{Round, own_of}
use Rattle.auction_model.specs.PackageTests.{is_empty}
use Rattle.auction_rules.specs.Caps.{clock_bid, greatest, highest, no_round}
use Rattle.auction_rules.proofs.BookCaps.{greatest-append}
use Rattle.clock_stage.specs.Kept as kept
use Rattle.relative_cap.specs.OwnRounds.{rounds_of, own_in, eligibility_in, IsConstraining}
use Rattle.relative_cap.proofs.AmountLaws.{highest-is}
use Rattle.relative_cap.specs.Levels.{peak_of, peak_from, ArePeaksFrom, IsHigh, AreLevels, IsLastEnough}

peak-most : (rounds : List OwnRound) (k : ℕ) → k < length rounds → (get_or rounds k no_round).eligibility ≤ peak_of rounds
peak-most [] k inside = absurd (omega arith)
peak-most (r ∷ rounds) zero inside = omega arith
peak-most (r ∷ rounds) (suc k) inside = omega (arith, peak-most rounds k (omega arith))

-- no later eligibility is above the peak
later-below : (history : List Round) (j r s : ℕ) → r < s → s ≤ length history → eligibility_in history j s ≤ peak_from history j r
later-below history j r s low high =
    let rest : List Round = drop r history in
    let i : ℕ = s - 1 - r in
    let inside : i < length rest = omega (arith, length-drop r history) in
    let place : r + i ≡ s - 1 = omega arith in
    let is : get_or (rounds_of j rest) i no_round ≡ own_in history j s
    = get_or-map (own_of j) rest i kept.no_round no_round inside
    ∙ ap (own_of j) (get_or-drop r history i kept.no_round ∙ ap (λ m. get_or history m kept.no_round) place) in
    omega (arith, ap (λ (o : OwnRound). o.eligibility) is, peak-most (rounds_of j rest) i (omega (arith, length-map rest (own_of j))))

-- the peak from a round on is its eligibility or a later one
peak-at : (history : List Round) (j r : ℕ) → 1 ≤ r → r ≤ length history → peak_from history j (r - 1) ≡ max (eligibility_in history j r) (peak_from history j r)
peak-at history j r low high =
    let next : r - 1 + 1 ≡ r = omega arith in
    ap (λ (h : List Round). peak_of (rounds_of j h)) (drop_more history (r - 1) kept.no_round (omega arith))
    ∙ ap (λ m. max (eligibility_in history j r) (peak_from history j m)) next

-- the peak from a round on is the greater of its eligibility and the peak after it
pub peak-step : (history : List Round) (j k peak eligibility more : ℕ) → k < length history → peak ≡ peak_from history j (k + 1)
    → eligibility ≡ eligibility_in history j (k + 1)
    → more ≡ max peak eligibility → more ≡ peak_from history j k
peak-step history j k peak eligibility more inside is own by =
    let back : k ≡ k + 1 - 1 = omega arith in
    omega (arith, is, own, by, ap (peak_from history j) back, peak-at history j (k + 1) (omega arith) (omega arith))

-- after the last round the peak is 0
pub peak-end : (history : List Round) (j k : ℕ) → length history ≤ k → peak_from history j k ≡ 0
peak-end [] j zero past = refl
peak-end [] j (suc k) past = refl
peak-end (h ∷ history) j zero past = absurd (omega arith)
peak-end (h ∷ history) j (suc k) past = peak-end history j k (omega arith)

-- the last number that is enough gives the constraining round
enough-at : (history : List Round) (j needed r : ℕ) → 1 ≤ r → r ≤ length history → needed ≤ peak_from history j (r - 1)
    → (r ≡ length history) ⊎ (peak_from history j r < needed)
    → needed ≤ eligibility_in history j r
enough-at history j needed r low high enough (inl last) = omega (arith, enough, peak-at history j r low high, peak-end history j r (omega (arith, last)))
enough-at history j needed r low high enough (inr short) = omega (arith, enough, peak-at history j r low high, short)

short-behind : (history : List Round) (j needed r : ℕ) → (r ≡ length history) ⊎ (peak_from history j r < needed) → (s : ℕ) → r < s → s ≤ length history
    → eligibility_in history j s < needed
short-behind history j needed r (inl last) s low high = absurd (omega (arith, last))
short-behind history j needed r (inr short) s low high = omega (arith, short, later-below history j r s low high)

later-of : (history : List Round) (j needed : ℕ) (peaks : List ℕ) (rounds r : ℕ) → rounds ≡ length history → ArePeaksFrom 0 history j peaks → r ≤ rounds
    → (r ≡ rounds) ⊎ (slice_index peaks r < needed) → (r ≡ length history) ⊎ (peak_from history j r < needed)
later-of history j needed peaks rounds r count are most (inl last) = inl (last ∙ count)
later-of history j needed peaks rounds r count are most (inr short) =
    elim (cases_order r rounds) [
      | inl last ↦ inl (last ∙ count)
      | inr other ↦ elim other [
        | inl less ↦ inr (omega (arith, short, are r (omega arith) (omega (arith, count))))
        | inr more ↦ absurd (omega arith)
      ]
    ]

-- the last round from which on the peak is enough is the constraining round
pub constraining-by_peaks : (history : List Round) (j needed : ℕ) (peaks : List ℕ) (rounds r : ℕ) → rounds ≡ length history → ArePeaksFrom 0 history j peaks
    → IsLastEnough needed peaks rounds r → IsConstraining needed history j r
constraining-by_peaks history j needed peaks rounds r count are is =
    let high : r ≤ length history = omega (arith, is.last, count) in
    let later : (r ≡ length history) ⊎ (peak_from history j r < needed) = later-of history j needed peaks rounds r count are is.last is.later in
    let peak : needed ≤ peak_from history j (r - 1) = omega (arith, is.enough, are (r - 1) (omega arith) (omega (arith, is.first))) in
    let enough : needed ≤ eligibility_in history j r = enough-at history j needed r is.first high peak later in
    record { first = is.first; last = high; enough = enough; later = short-behind history j needed r later }

-- the greatest clock bid for what was held in round r
pub level-high : (history : List Round) (j : ℕ) (peaks highs : List ℕ) (r : ℕ) → AreLevels history j peaks highs → 1 ≤ r → r ≤ length history
    → IsHigh history j [] (r - 1) (slice_index highs (r - 1))
level-high history j peaks highs r are low high = are.each_high (r - 1) (omega arith) (omega arith)

-- what is highest for the package held in round r, by its place
pub high_of-round : (history : List Round) (j : ℕ) (bids : List BookBid) (r high : ℕ) → 1 ≤ r → IsHigh history j bids (r - 1) high
    → high ≡ highest (rounds_of j history) bids (own_in history j r).held
high_of-round history j bids r high low is =
    let next : r - 1 + 1 ≡ r = omega arith in
    is.0 ∙ ap (λ m. highest (rounds_of j history) bids (own_in history j m).held) next

-- and the other way round
pub high-here : (history : List Round) (j r high : ℕ) (held : List ℕ) → 0 < r → held ≡ (own_in history j r).held
    → high ≡ highest (rounds_of j history) [] held → high ≤ 2 ^ 42 → IsHigh history j [] (r - 1) high
high-here history j r high held low by_held is most =
    let next : r ≡ r - 1 + 1 = omega arith in
    (is ∙ ap (highest (rounds_of j history) []) by_held ∙ ap (λ m. highest (rounds_of j history) [] (own_in history j m).held) next, most)

-- nothing is highest for the empty package
pub high-empty : (history : List Round) (j : ℕ) (bids : List BookBid) (r : ℕ) (held : List ℕ) → 1 ≤ r → held ≡ (own_in history j r).held
    → is_empty held ≡ true → IsHigh history j bids (r - 1) 0
high-empty history j bids r held low by_held empty =
    let next : r ≡ r - 1 + 1 = omega arith in
    let is : is_empty (own_in history j (r - 1 + 1)).held ≡ true = ap (λ m. is_empty (own_in history j m).held) (sym next) ∙ ap is_empty (sym by_held)
    ∙ empty in (
      sym (cond-true (is_empty (own_in history j (r - 1 + 1)).held) 0 (greatest (own_in history j (r - 1 + 1)).held
          (map clock_bid (rounds_of j history) ++ bids)) is),
      omega arith,
    )

-- the greatest of the clock and of the list
pub high-some : (history : List Round) (j : ℕ) (bids : List BookBid) (r clock listed best : ℕ) (held : List ℕ) → 1 ≤ r → held ≡ (own_in history j r).held
    → is_empty held ≡ false
    → IsHigh history j [] (r - 1) clock → listed ≡ greatest held bids → listed ≤ 2 ^ 42 → best ≡ max clock listed → IsHigh history j bids (r - 1) best
high-some history j bids r clock listed best held low by_held some by_clock by_list most is =
    let next : r ≡ r - 1 + 1 = omega arith in
    let place : held ≡ (own_in history j (r - 1 + 1)).held = by_held ∙ ap (λ m. (own_in history j m).held) next in
    let none : is_empty (own_in history j (r - 1 + 1)).held ≡ false = ap is_empty (sym place) ∙ some in
    let rounds : List OwnRound = rounds_of j history in
    let own : List ℕ = (own_in history j (r - 1 + 1)).held in
    let alone : clock ≡ greatest own (map clock_bid rounds ++ []) = by_clock.0 ∙ cond-false (is_empty own) 0 (greatest own (map clock_bid rounds ++ [])) none in
    let no_list : greatest own (map clock_bid rounds ++ []) ≡ max (greatest own (map clock_bid rounds)) 0 = greatest-append own (map clock_bid rounds) [] in
    let bids_alone : clock ≡ greatest own (map clock_bid rounds) = omega (arith, alone, no_list) in (
      highest-is rounds bids own clock listed best none bids_alone (by_list ∙ ap (λ (q : List ℕ). greatest q bids) place) is,
      omega (arith, is, most, by_clock.1),
    )

-- a write before what is known
pub set-from : (P : ℕ → ℕ → Type 0) (xs : List ℕ) (i v p : ℕ) → p ≡ i + 1 → i < length xs → ((k : ℕ) → p ≤ k → P k (slice_index xs k)) → P i v
    → (k : ℕ) → i ≤ k → P k (slice_index (set xs i v) k)
set-from P xs i v p next inside before own k low =
    elim (cases_order k i) [
      | inl same ↦ subst (λ m. P m (slice_index (set xs i v) m)) (sym same) (subst (P i) (sym (get_or-set_same xs i v 0 inside)) own)
      | inr other ↦ elim other [
        | inl less ↦ absurd (omega arith)
        | inr more ↦ subst (P k) (sym (get_or-set_other xs i k v 0 (λ e. absurd (omega arith)))) (before k (omega arith))
      ]
    ]
