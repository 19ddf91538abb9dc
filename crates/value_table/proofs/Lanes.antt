-- Four numbers at a time.
use Rattle.std.proofs.Common.{◌≡◌, ◌∙◌, ℕ, ◌+◌, ◌-◌, ◌^◌, ◌≤◌, ◌<◌, max, false, cond, ltb, List, length, get_or, replicate, ap, arith, inl, inr, w32}
use lib.Lanes.{zip2, sel_l, top, Each2, chunk, put_chunk}
use mathlib.Core.List.{map}
use mir.Val.{Fits}
use Rattle.std.proofs.lemmas.Bool.{cases_lt, lt-ltb, le-ltb, cond-true, cond-false}
use Rattle.std.proofs.lemmas.Simd.{Each1-from_get_or, Each2-splat, get_or-chunk, get_or-put_chunk_above, get_or-put_chunk_at, get_or-put_chunk_below}
use Rattle.std.proofs.lemmas.Simd.{get_or-replicate, get_or-sel_l, get_or-zip2, length-chunk, length-replicate, length-sel_l, length-zip2}
use Rattle.std.proofs.lemmas.Simd.{tops_compared}

-- the larger of each two lanes, as it is selected
abbrev pub larger : List ℕ → List ℕ → List ℕ
larger a b = sel_l (map (top 31) (zip2 (λ x y. cond (ltb x y) (2 ^ 32 - 1) 0) a b)) b a

pick-max : (a b : ℕ) → cond (ltb a b) b a ≡ max a b
pick-max a b = elim (cases_lt a b) [
  | inl less ↦ cond-true (ltb a b) b a (lt-ltb a b less) ∙ omega (arith, less)
  | inr more ↦ cond-false (ltb a b) b a (le-ltb a b more) ∙ omega (arith, more)
]

module _ (a b : List ℕ) (alike : length a ≡ length b) where
  is-selected : larger a b ≡ sel_l (zip2 ltb a b) b a
  is-selected = ap (λ ms. sel_l ms b a) (tops_compared w32 ltb a b)

  compared : length (zip2 ltb a b) ≡ length a
  compared = length-zip2 ltb a b alike

  pub length-larger : length (larger a b) ≡ length a
  length-larger = ap length is-selected ∙ length-sel_l (zip2 ltb a b) b a (omega (arith, compared, alike)) compared ∙ compared

  pub get_or-larger : (i : ℕ) → i < length a → get_or (larger a b) i 0 ≡ max (get_or a i 0) (get_or b i 0)
  get_or-larger i low =
      ap (λ l. get_or l i 0) is-selected
      ∙ get_or-sel_l (zip2 ltb a b) b a i 0 (omega (arith, compared, low)) (omega (arith, alike, low)) low
      ∙ ap (λ t. cond t (get_or b i 0) (get_or a i 0)) (get_or-zip2 ltb a b i 0 0 false low (omega (arith, alike, low)))
      ∙ pick-max (get_or a i 0) (get_or b i 0)

-- four numbers of a line that are raised to those of the line below with a worth
module _ (line below : List ℕ) (at worth : ℕ) (room : at + 4 ≤ length line) (places : length line ≡ length below) where
  abbrev own : List ℕ
  own = chunk at 4 line

  abbrev pub sums : List ℕ
  sums = zip2 (λ x y. x + y) (chunk at 4 below) (replicate 4 worth)

  four : length own ≡ 4
  four = length-chunk at 4 line room

  four-below : length (chunk at 4 below) ≡ 4
  four-below = length-chunk at 4 below (omega (arith, room, places))

  sums-four : length sums ≡ 4
  sums-four = length-zip2 (λ x y. x + y) (chunk at 4 below) (replicate 4 worth) (four-below ∙ omega (arith, length-replicate 4 worth)) ∙ four-below

  made-four : length (larger own sums) ≡ 4
  made-four = length-larger own sums (omega (arith, four, sums-four)) ∙ four

  pub sums-fit : worth ≤ 2 ^ 31 - 1 → ((s : ℕ) → get_or below s 0 ≤ 2 ^ 31 - 1) → Each2 (λ x y. Fits w32 (x + y)) (chunk at 4 below) (replicate 4 worth)
  sums-fit small sizes =
      Each2-splat (λ (x y : ℕ). Fits w32 (x + y)) (chunk at 4 below) 4 worth
      (Each1-from_get_or (λ (x : ℕ). Fits w32 (x + worth)) (chunk at 4 below) 0
      (λ i low. record { fits = omega (arith, small, sizes (at + i), get_or-chunk at 4 below i 0 (omega (arith, low, four-below))) }))

  pub four-before : (s : ℕ) → s < at → get_or (put_chunk at line (larger own sums)) s 0 ≡ get_or line s 0
  four-before s low = get_or-put_chunk_below at line (larger own sums) s 0 low

  pub four-behind : (s : ℕ) → at + 4 ≤ s → get_or (put_chunk at line (larger own sums)) s 0 ≡ get_or line s 0
  four-behind s high = get_or-put_chunk_above at line (larger own sums) s 0 (omega (arith, high, made-four))

  pub four-raised : (s : ℕ) → at ≤ s → s < at + 4 → get_or (put_chunk at line (larger own sums)) s 0 ≡ max (get_or line s 0) (worth + get_or below s 0)
  four-raised s high low =
      let j = s - at in
      let s_is : at + j ≡ s = omega (arith, high) in
      let j_low : j < 4 = omega (arith, low, high) in
      let sum : get_or sums j 0 ≡ get_or below s 0 + worth =
      get_or-zip2 (λ x y. x + y) (chunk at 4 below) (replicate 4 worth) j 0 0 0 (omega (arith, four-below, j_low)) (omega (arith, length-replicate 4 worth, j_low))
      ∙ ap (λ (n : ℕ). n + get_or (replicate 4 worth) j 0) (get_or-chunk at 4 below j 0 j_low ∙ ap (λ (n : ℕ). get_or below n 0) s_is)
      ∙ ap (λ (n : ℕ). get_or below s 0 + n) (get_or-replicate 4 j worth 0 j_low) in
      let old : get_or own j 0 ≡ get_or line s 0 = get_or-chunk at 4 line j 0 j_low ∙ ap (λ (n : ℕ). get_or line n 0) s_is in
      ap (λ (n : ℕ). get_or (put_chunk at line (larger own sums)) n 0) (ap (λ n. n) (omega (arith, s_is)))
      ∙ get_or-put_chunk_at at line (larger own sums) j 0 (omega (arith, made-four, j_low)) (omega (arith, made-four, room))
      ∙ get_or-larger own sums (omega (arith, four, sums-four)) j (omega (arith, four, j_low))
      ∙ omega (arith, sum, old)
