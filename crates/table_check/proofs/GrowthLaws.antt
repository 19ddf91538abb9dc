-- Lines that never fall, from their blocks; and the rules that follow from others on such a line.
use Rattle.std.specs.Prelude.{IsTrue, List, [], drop, get_or, length, nat_le, pos, refl, suc, take, zero, ℕ, ℤ, ◌%◌, ◌*◌, ◌+ℤ◌, ◌+◌, ◌-◌, ◌/◌, ◌<◌}
use Rattle.std.specs.Prelude.{◌∷◌, ◌≡◌, ◌≤ℤ◌, ◌≤◌}
use Rattle.std.proofs.Common.{inl, inr, sym, ◌∙◌, ap, subst, arith}
use Rattle.std.proofs.lemmas.Bool.{and_parts, leb-true, cases_lt}
use Rattle.std.proofs.lemmas.Int.{ints}
use Rattle.std.proofs.lemmas.Nat.{div_below, mod_below, div-add-mod'}
use Rattle.auction_model.specs.Package.{is_within, less}
use Rattle.auction_model.specs.Place.{left_at, place_of, states_of}
use Rattle.auction_model.specs.Book.{bids_of, lots_of, net_of}
use Rattle.auction_model.proofs.PlaceLaws.{left_at-less, place-less_below, place_of-left_at, states-positive, within-within}
use Rattle.auction_model.proofs.PackageLaws.{less-empty}
use Rattle.auction_model.proofs.DominatedLaws.{less-within, lowered-in_order}
use Rattle.auction_model.proofs.PartReads.{read-part}
use Rattle.bid_book.specs.Better.{IsBetter}
use Rattle.bid_book.specs.Kept.{IsBidBook}
use Rattle.cert_soundness.specs.Tests.{states}
use Rattle.table_check.specs.Faults.{FirstFault}
use Rattle.wide_num.specs.Sums.{nth}
use Rattle.table_check.specs.Growth.{Grows, RisesBy}
use Rattle.table_check.specs.LineTests.{worth_of, KeepsBid, KeepsSome, IsNeedless}
use Rattle.table_check.specs.declared.offers.TestedBids.{TestedBids}
use Rattle.table_check.proofs.BlockLaws.{fault-same}

rises-many : (W : ℕ) (line : List ℤ) → RisesBy W line → (d s : ℕ) → s + d * W < length line → nth line s ≤ℤ nth line (s + d * W)
rises-many W line rises zero s h = let same : s ≡ s + 0 * W = omega arith in subst (λ (n : ℕ). nth line s ≤ℤ nth line n) same (omega (arith, ints))
rises-many W line rises (suc d) s h =
    let before = rises-many W line rises d s (omega (arith, h)) in
    let step = rises (s + d * W) (omega (arith, h)) in
    let same : s + d * W + W ≡ s + suc d * W = omega arith in
    let last : nth line (s + d * W) ≤ℤ nth line (s + suc d * W) = subst (λ (n : ℕ). nth line (s + d * W) ≤ℤ nth line n) same step in
    omega (arith, ints, before, last)

-- a line that rises by blocks, of which each never falls, never falls
grows-cons : (b : ℕ) (supply : List ℕ) (line : List ℤ) → length line ≡ states_of (b ∷ supply) → RisesBy (states_of supply) line
    → ((q : ℕ) → q < b + 1 → Grows supply (take (states_of supply) (drop (q * states_of supply) line))) → Grows (b ∷ supply) line
grows-cons b supply line places rises blocks s t s_low t_low within =
    let W = states_of supply in
    let positive : 0 < W = states-positive supply in
    let q = s / W in
    let r = s % W in
    let p = t / W in
    let o = t % W in
    let s_is : q * W + r ≡ s = div-add-mod' s W in
    let t_is : p * W + o ≡ t = div-add-mod' t W in
    let r_low : r < W = mod_below s W positive in
    let o_low : o < W = mod_below t W positive in
    let parts = and_parts (nat_le q p) (is_within (left_at supply r) (left_at supply o)) within in
    let up : q ≤ p = leb-true q p parts.0 in
    let whole : states_of (b ∷ supply) ≡ (b + 1) * W = omega arith in
    let q_low : q < b + 1 = div_below s W (b + 1) positive (omega (arith, s_low, whole)) in
    let part = take W (drop (q * W) line) in
    let inside : nth part r ≤ℤ nth part o = blocks q q_low r o r_low o_low parts.1 in
    let read_r : nth part r ≡ nth line s = read-part line (q * W) W r r_low ∙ ap (nth line) s_is in
    let read_o : nth part o ≡ nth line (q * W + o) = read-part line (q * W) W o o_low in
    let apart : q * W + o + (p - q) * W ≡ t = omega (arith, t_is, split q p W up) in
    let across = rises-many W line rises (p - q) (q * W + o) (omega (arith, apart, t_low, places)) in
    let end : nth line (q * W + o) ≤ℤ nth line t = subst (λ (n : ℕ). nth line (q * W + o) ≤ℤ nth line n) apart across in
    omega (arith, ints, inside, read_r, read_o, end)
  where
    split : (a c W : ℕ) → a ≤ c → a * W + (c - a) * W ≡ c * W
    split a c W h =
        let d = c - a in
        let sum : (a + d) * W ≡ a * W + d * W = omega arith in
        let is : a + d ≡ c = omega arith in
        sym sum ∙ ap (λ x. x * W) is

-- one place
grows-one : (line : List ℤ) → Grows [] line
grows-one line s t s_low t_low within = let same : s ≡ t = omega (arith, s_low, t_low) in subst (λ (n : ℕ). nth line s ≤ℤ nth line n) same (omega (arith, ints))

-- the same for the lists of the code
pub grows-last : (supply : List ℕ) (line : List ℤ) (W : ℕ) → length supply ≡ 1 → W ≡ states_of (drop 1 supply) → length line ≡ states_of supply
    → RisesBy W line → Grows supply line
grows-last [] line W one is places rises = absurd (omega (arith, one))
grows-last (b ∷ []) line W one is places rises = grows-cons b [] line places (subst (λ (n : ℕ). RisesBy n line) is rises)
    (λ q low. grows-one (take 1 (drop (q * 1) line)))
grows-last (b ∷ c ∷ supply) line W one is places rises = absurd (omega (arith, one))

-- after the last category there is one place
pub last-width : (supply : List ℕ) → length supply ≡ 1 → 1 ≡ states_of (drop 1 supply)
last-width [] one = absurd (omega (arith, one))
last-width (b ∷ []) one = refl
last-width (b ∷ c ∷ supply) one = absurd (omega (arith, one))

-- a line that rises from block to block, of which each never falls, never falls
pub grows-list : (supply : List ℕ) (line : List ℤ) (W n : ℕ) → 0 < length supply → W ≡ states_of (drop 1 supply) → length line ≡ states_of supply
    → get_or supply 0 0 + 1 ≤ n → RisesBy W line
    → ((q : ℕ) → q < n → Grows (drop 1 supply) (take W (drop (q * W) line))) → Grows supply line
grows-list [] line W n some is places all rises blocks = absurd (omega (arith, some))
grows-list (b ∷ supply) line W n some is places all rises blocks =
    grows-cons b supply line places (subst (λ (m : ℕ). RisesBy m line) is rises)
    (λ q low. subst (λ (m : ℕ). Grows supply (take m (drop (q * m) line))) is (blocks q (omega (arith, low, all))))

-- a bid is needless if an earlier one takes no more and offers as much
pub needless-better : (o : TestedBids) (j i h : ℕ) → IsBidBook o.book.now → i ≤ length (bids_of o.book.now j) → 0 < h → pos 0 ≤ℤ o.den → IsBetter o.book.now j i h
    → IsNeedless o j i
needless-better o j i h kept known some den better = record {
  other = h;
  earlier = better.earlier;
  smaller = better.smaller;
  worth = λ _. lowered-in_order o.den (net_of o.book.now j i) (net_of o.book.now j h) _ den (kept.not_negative j i known) better.worth;
  none = λ e. absurd (omega (arith, some, e));
}

module _ (o : TestedBids) (j i : ℕ) (line below : List ℤ) (places : length line ≡ states o.book.now) (grows : Grows o.book.now.supply below) where
  -- what is left after the larger package is no more worth
  rest-grows : (h s : ℕ) → s < states o.book.now → IsTrue (is_within (lots_of o.book.now j h) (lots_of o.book.now j i))
      → nth below (place_of o.book.now.supply (less (left_at o.book.now.supply s) (lots_of o.book.now j i))) ≤ℤ nth below
      (place_of o.book.now.supply (less (left_at o.book.now.supply s) (lots_of o.book.now j h)))
  rest-grows h s low smaller =
      let supply = o.book.now.supply in
      let left = left_at supply s in
      let larger = lots_of o.book.now j i in
      let lots = lots_of o.book.now j h in
      let w : IsTrue (is_within (less left larger) (less left lots)) = less-within left larger lots smaller in
      grows (place_of supply (less left larger)) (place_of supply (less left lots)) (place-less_below supply larger s low) (place-less_below supply lots s low)
      (rw (left_at-less supply larger s low, left_at-less supply lots s low) w)

  needless-keeps : IsNeedless o j i → (k : ℕ) → i ≡ k + 1 → (s : ℕ) → KeepsSome o j line below k s → KeepsBid o j line below i s
  needless-keeps n k is s keeps low fits = keep n.other n.earlier n.smaller n.worth n.none
    where
      rest : ℕ → ℤ
      rest h = nth below (place_of o.book.now.supply (less (left_at o.book.now.supply s) (lots_of o.book.now j h)))

      keep : (h : ℕ) → h < i → IsTrue (is_within (lots_of o.book.now j h) (lots_of o.book.now j i)) → (0 < h → worth_of o j i ≤ℤ worth_of o j h)
          → (h ≡ 0 → worth_of o j i ≤ℤ pos 0) → (worth_of o j i +ℤ rest i) ≤ℤ nth line s
      keep zero lt smaller worth none =
          let grown : rest i ≤ℤ rest 0 = rest-grows 0 s low smaller in
          let whole : rest 0 ≡ nth below s = ap (nth below) (ap (place_of o.book.now.supply) (less-empty (left_at o.book.now.supply s))
          ∙ place_of-left_at o.book.now.supply s low) in
          let own = keeps.none (omega (arith, low, places)) in
          omega (arith, ints, grown, whole, own, none refl)
      keep (suc h) lt smaller worth none =
          let grown : rest i ≤ℤ rest (suc h) = rest-grows (suc h) s low smaller in
          let own = keeps.bid (suc h) (omega arith) (omega (arith, lt, is)) low (within-within (lots_of o.book.now j (suc h)) (lots_of o.book.now j i)
          (left_at o.book.now.supply s) smaller fits) in
          omega (arith, ints, grown, own, worth (omega arith))

-- such a bid needs no test
pub line-needless : (o : TestedBids) (j : ℕ) (line below : List ℤ) (k stop e : ℕ) → length line ≡ states o.book.now → Grows o.book.now.supply below
    → IsNeedless o j (k + 1)
    → FirstFault (KeepsSome o j line below k) stop e → FirstFault (KeepsSome o j line below (k + 1)) stop e
line-needless o j line below k stop e places grows n f =
    fault-same (KeepsSome o j line below k) (KeepsSome o j line below (k + 1)) stop e
    (λ s front. record {
      none = front.none;
      bid = λ i some few. elim (cases_lt i (k + 1)) [
        | inl earlier ↦ front.bid i some (omega (arith, earlier))
        | inr here ↦ (let last : k + 1 ≡ i = omega (arith, few, here) in subst (λ (x : ℕ). KeepsBid o j line below x s) last
            (needless-keeps o j (k + 1) line below places grows n k refl s front))
      ];
    })
    (λ s all. record { none = all.none; bid = λ i some few. all.bid i some (omega (arith, few)) })
    f
