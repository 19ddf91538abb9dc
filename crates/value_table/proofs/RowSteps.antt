-- The rows of a block of two categories, row by row, and what a bid changes in them.
use Rattle.std.specs.Prelude.{IsTrue, List, [], drop, get_or, length, map, max, nat_le, pos, take, ℕ, ℤ, ◌%◌, ◌*◌, ◌+ℤ◌, ◌+◌, ◌-◌, ◌/◌, ◌<◌, ◌∷◌, ◌≡◌}
use Rattle.std.specs.Prelude.{◌≤◌}
use Rattle.std.specs.Int.{int_max}
use Rattle.std.proofs.Common.{sym, ◌∙◌, ap, subst, arith, inl, inr}
use Rattle.std.proofs.Math.Nat.{mul-le-mul_right}
use Rattle.std.proofs.lemmas.Bool.{cases_lt, and_parts, leb-true}
use Rattle.std.proofs.lemmas.List.{get_or-drop, length-drop, length-map}
use Rattle.std.proofs.lemmas.Nat.{mod_below, div-add-mod'}
use Rattle.auction_model.specs.Package.{is_within}
use Rattle.auction_model.specs.Place.{states_of, widths_of}
use Rattle.auction_model.specs.Steps.{raised}
use Rattle.auction_model.proofs.PlaceLaws.{states-positive}
use Rattle.auction_model.proofs.PartReads.{read-after, read-before, read-middle}
use Rattle.auction_model.proofs.RunLaws.{raised-before, raised-high, raised-last, states-first, width-first, widths-rest}
use Rattle.value_table.proofs.NumberParts.{read-put, read-number, read-first}
use Rattle.value_table.proofs.ShortLaws.{read-short, max-short}
use Rattle.value_table.specs.declared.shape.Rows.{Rows}
use borrow.Rule.Slice.PartMut.{put_mid}

-- the first rows are raised, the later ones are as they were
pub record AreRowsSoFar (rows : Rows) (below : List ℤ) (worth : ℤ) (old new : List ℤ) (n : ℕ) : Type 0 where
  pub done : (q i : ℕ) → q < n → i < rows.run
      → get_or new (q * rows.width + i) (pos 0)
      ≡ int_max (get_or old (q * rows.width + i) (pos 0)) (worth +ℤ get_or below (q * rows.width + i) (pos 0))
  pub rest : (s : ℕ) → n * rows.width ≤ s → get_or new s (pos 0) ≡ get_or old s (pos 0)
  pub kept : (q i : ℕ) → i < rows.width → rows.run ≤ i → get_or new (q * rows.width + i) (pos 0) ≡ get_or old (q * rows.width + i) (pos 0)

module _ (rows : Rows) (below : List ℤ) (worth : ℤ) (old : List ℤ) (inside : rows.run ≤ rows.width) where
  -- one more row
  pub rows-more : (line made : List ℤ) (n : ℕ) → ((s : ℕ) → s < n * rows.width → get_or made s (pos 0) ≡ get_or line s (pos 0))
      → ((i : ℕ) → i < rows.run → get_or made (n * rows.width + i) (pos 0)
      ≡ int_max (get_or line (n * rows.width + i) (pos 0)) (worth +ℤ get_or below (n * rows.width + i) (pos 0)))
      → ((s : ℕ) → n * rows.width + rows.run ≤ s → get_or made s (pos 0) ≡ get_or line s (pos 0))
      → AreRowsSoFar rows below worth old line n → AreRowsSoFar rows below worth old made (n + 1)
  rows-more line made n before own behind was =
      let w = rows.width in
      record {
        done = λ q i low front. elim (cases_lt q n) [
          | inl earlier ↦
              let up : (q + 1) * w ≤ n * w = mul-le-mul_right w (omega (arith, earlier)) in
              before (q * w + i) (omega (arith, up, front, inside)) ∙ was.done q i earlier front
          | inr here ↦
              let is : n ≡ q = omega (arith, here, low) in
              subst (λ (k : ℕ). get_or made (k * w + i) (pos 0) ≡ int_max (get_or old (k * w + i) (pos 0)) (worth +ℤ get_or below (k * w + i) (pos 0))) is
              (own i front ∙ ap (λ (z : ℤ). int_max z (worth +ℤ get_or below (n * w + i) (pos 0))) (was.rest (n * w + i) (omega arith)))
        ];
        rest = λ s past. behind s (omega (arith, past, inside)) ∙ was.rest s (omega (arith, past));
        kept = λ q i low past. elim (cases_lt q n) [
          | inl earlier ↦
              let up : (q + 1) * w ≤ n * w = mul-le-mul_right w (omega (arith, earlier)) in
              before (q * w + i) (omega (arith, up, low)) ∙ was.kept q i low past
          | inr later ↦
              let up : n * w ≤ q * w = mul-le-mul_right w later in
              behind (q * w + i) (omega (arith, up, past)) ∙ was.kept q i low past
        ];
      }

-- the same of numbers of 32 bits
pub short-more : (rows : Rows) → rows.run ≤ rows.width → (below old line made : List ℕ) (worth n : ℕ)
    → ((s : ℕ) → s < n * rows.width → get_or made s 0 ≡ get_or line s 0)
    → ((s : ℕ) → n * rows.width ≤ s → s < n * rows.width + rows.run → get_or made s 0 ≡ max (get_or line s 0) (worth + get_or below s 0))
    → ((s : ℕ) → n * rows.width + rows.run ≤ s → get_or made s 0 ≡ get_or line s 0)
    → AreRowsSoFar rows (map (λ k. pos k) below) (pos worth) (map (λ k. pos k) old) (map (λ k. pos k) line) n
    → AreRowsSoFar rows (map (λ k. pos k) below) (pos worth) (map (λ k. pos k) old) (map (λ k. pos k) made) (n + 1)
short-more rows inside below old line made worth n before own behind was =
    let at = n * rows.width in
    rows-more rows (map (λ k. pos k) below) (pos worth) (map (λ k. pos k) old) inside (map (λ k. pos k) line) (map (λ k. pos k) made) n
    (λ s h. read-short made s ∙ ap pos (before s h) ∙ sym (read-short line s))
    (λ i h. read-short made (at + i) ∙ ap pos (own (at + i) (omega arith) (omega (arith, h))) ∙ max-short line below (at + i) worth)
    (λ s h. read-short made s ∙ ap pos (behind s h) ∙ sym (read-short line s))
    was

-- a run written back into a line
pub slice-more : {A : Type 0} (number : A → ℤ) (rows : Rows) → rows.run ≤ rows.width → (below initial line made : List A) (worth : ℤ) (n k : ℕ)
    → k ≡ rows.run → n < rows.count → length line ≡ (rows.count - 1) * rows.width + rows.run → length made ≡ k
    → ((i : ℕ) → i < rows.run → get_or (map number made) i (pos 0)
    ≡ int_max (get_or (map number line) (n * rows.width + i) (pos 0)) (worth +ℤ get_or (map number below) (n * rows.width + i) (pos 0)))
    → AreRowsSoFar rows (map number below) worth (map number initial) (map number line) n
    → AreRowsSoFar rows (map number below) worth (map number initial) (map number (put_mid (n * rows.width) k line made)) (n + 1)
slice-more number rows inside below initial line made worth n k k_is low all count own was =
    let at = n * rows.width in
    let up : at ≤ (rows.count - 1) * rows.width = mul-le-mul_right rows.width (omega (arith, low)) in
    let same : length (map number line) ≡ length line = length-map line number in
    let start : at ≤ length (map number line) = omega (arith, up, all, same) in
    let made_count : length (map number made) ≡ k = length-map made number ∙ count in
    rows-more rows (map number below) worth (map number initial) inside (map number line) (map number (put_mid at k line made)) n
    (λ s h. read-put number at k line made s ∙ read-before at k (map number line) (map number made) start made_count s h)
    (λ i h. read-put number at k line made (at + i) ∙ read-middle at k (map number line) (map number made) start made_count i (omega (arith, h, k_is)) ∙ own i h)
    (λ s h. read-put number at k line made s ∙ read-after at k (map number line) (map number made) start made_count s (omega (arith, h, k_is)))
    was

-- the run of a row ends within the line
pub row-room : (rows : Rows) (n places : ℕ) → n < rows.count → places ≡ (rows.count - 1) * rows.width + rows.run → n * rows.width + rows.run ≤ places
row-room rows n places low all =
    let up : n * rows.width ≤ (rows.count - 1) * rows.width = mul-le-mul_right rows.width (omega (arith, low)) in omega (arith, up, all)

-- a bid that wants lots of two categories
module _ (supply p : List ℕ) (below : List ℤ) (worth : ℤ) (two : length p ≡ 2) (few : length p ≤ length supply) where
  abbrev width : ℕ
  width = states_of (drop 1 supply)

  abbrev skip : ℕ
  skip = get_or (drop 1 p) 0 0 * states_of (drop 1 (drop 1 supply))

  -- changes nothing if a row has too few of the second
  row-kept : (q i : ℕ) (old : ℤ) → get_or p 0 0 ≤ q → i < width → i < skip → raised supply below p worth (q * width + i) old ≡ old
  row-kept q i old high low front =
      let part = drop ((q - get_or p 0 0) * width) below in
      raised-high supply p below part worth q i old (omega (arith, two)) few low high (λ k h. get_or-drop ((q - get_or p 0 0) * width) below k (pos 0))
      ∙ raised-before (drop 1 supply) (drop 1 p) part worth i old (omega (arith, two, length-drop 1 p))
      (omega (arith, few, two, length-drop 1 p, length-drop 1 supply)) front

  -- and raises the others
  row-raised : (q i : ℕ) (old : ℤ) → get_or p 0 0 ≤ q → skip + i < width
      → raised supply below p worth (q * width + (skip + i)) old ≡ int_max old (worth +ℤ get_or below ((q - get_or p 0 0) * width + i) (pos 0))
  row-raised q i old high low =
      let from = (q - get_or p 0 0) * width in
      let part = drop from below in
      let back : skip + i - skip ≡ i = omega arith in
      raised-high supply p below part worth q (skip + i) old (omega (arith, two)) few low high (λ k h. get_or-drop from below k (pos 0))
      ∙ raised-last (drop 1 supply) (drop 1 p) part worth (skip + i) old (omega (arith, two, length-drop 1 p)) (omega (arith, few, two, length-drop 1 supply))
      (omega arith) low
      ∙ ap (λ (n : ℕ). int_max old (worth +ℤ get_or part n (pos 0))) back
      ∙ ap (λ (z : ℤ). int_max old (worth +ℤ z)) (get_or-drop from below i (pos 0))

  -- with the rows from the bid's first place on raised each place of the line is as after the bid
  pub rows-back : (line ys : List ℤ) (start k : ℕ) → length line ≡ states_of supply → start ≡ get_or p 0 0 * width + skip → skip < width
      → k ≡ length line - start → start ≤ length line → length ys ≡ k
      → ((q i : ℕ) → q < get_or supply 0 0 - get_or p 0 0 + 1 → i < width - skip → q * width + i < k
      → get_or ys (q * width + i) (pos 0)
      ≡ int_max (get_or line (start + (q * width + i)) (pos 0)) (worth +ℤ get_or below (q * width + i) (pos 0)))
      → ((q i : ℕ) → i < width → width - skip ≤ i → q * width + i < k
      → get_or ys (q * width + i) (pos 0) ≡ get_or line (start + (q * width + i)) (pos 0))
      → (s : ℕ) → s < length line → get_or (put_mid start k line ys) s (pos 0) ≡ raised supply below p worth s (get_or line s (pos 0))
  rows-back line ys start k places from small is inside count fronts backs s h =
      let a = get_or p 0 0 in
      elim (cases_lt s start) [
        | inl low ↦ read-before start k line ys inside count s low ∙ sym (elim (cases_lt s (a * width)) [
          | inl before ↦ raised-before supply p below worth s (get_or line s (pos 0)) (omega (arith, two)) few before
          | inr past ↦
              let i = s - a * width in
              let up : a * width + i ≡ s = omega (arith, past) in
              ap (λ (n : ℕ). raised supply below p worth n (get_or line s (pos 0))) (sym up)
              ∙ row-kept a i (get_or line s (pos 0)) (omega arith) (omega (arith, low, from, small)) (omega (arith, low, from))
        ])
        | inr high ↦
            let j = s - start in
            let q = j / width in
            let i = j % width in
            let positive : 0 < width = states-positive (drop 1 supply) in
            let i_low : i < width = mod_below j width positive in
            let j_is : q * width + i ≡ j = div-add-mod' j width in
            let s_is : start + (q * width + i) ≡ s = omega (arith, j_is, high) in
            let j_low : q * width + i < k = omega (arith, j_is, is, h, high) in
            ap (λ (n : ℕ). get_or (put_mid start k line ys) n (pos 0)) (sym s_is)
            ∙ read-middle start k line ys inside count (q * width + i) j_low
            ∙ elim (cases_lt i (width - skip)) [
              | inl front ↦
                  let all : states_of supply ≡ (get_or supply 0 0 + 1) * width = states-first supply (omega (arith, two, few)) in
                  let row : q < get_or supply 0 0 - a + 1 = elim (cases_lt (a + q) (get_or supply 0 0 + 1)) [
                    | inl low ↦ omega (arith, low)
                    | inr over ↦
                        let past : (get_or supply 0 0 + 1) * width ≤ (a + q) * width = mul-le-mul_right width over in
                        absurd (omega (arith, past, all, places, h, s_is, from))
                  ] in
                  let back : a + q - a ≡ q = omega arith in
                  let there : (a + q) * width + (skip + i) ≡ s = omega (arith, s_is, from) in
                  fronts q i row front j_low
                  ∙ ap (λ (n : ℕ). int_max (get_or line n (pos 0)) (worth +ℤ get_or below (q * width + i) (pos 0))) s_is
                  ∙ ap (λ (n : ℕ). int_max (get_or line s (pos 0)) (worth +ℤ get_or below (n * width + i) (pos 0))) (sym back)
                  ∙ sym (row-raised (a + q) i (get_or line s (pos 0)) (omega arith) (omega (arith, front, small)))
                  ∙ ap (λ (n : ℕ). raised supply below p worth n (get_or line s (pos 0))) there
              | inr behind ↦
                  let i2 = i - (width - skip) in
                  let there : (a + q + 1) * width + i2 ≡ s = omega (arith, s_is, from, behind, small) in
                  backs q i i_low behind j_low
                  ∙ ap (λ (n : ℕ). get_or line n (pos 0)) s_is
                  ∙ sym (ap (λ (n : ℕ). raised supply below p worth n (get_or line s (pos 0))) (sym there)
                  ∙ row-kept (a + q + 1) i2 (get_or line s (pos 0)) (omega arith) (omega (arith, i_low, behind)) (omega (arith, i_low, behind, small)))
            ]
      ]

-- the second category of lots that fit takes less than a row
module _ (supply widths p : List ℕ) (is : widths ≡ widths_of supply) (two : length p ≡ 2) (few : length p ≤ length supply)
    (fits : IsTrue (is_within p supply)) where
  pub row-is : get_or widths 0 0 ≡ states_of (drop 1 supply)
  row-is = ap (λ (l : List ℕ). get_or l 0 0) is ∙ width-first supply (omega (arith, two, few))

  second-wide : get_or widths 1 0 ≡ states_of (drop 1 (drop 1 supply))
  second-wide =
      ap (λ (l : List ℕ). get_or l 1 0) is ∙ sym (get_or-drop 1 (widths_of supply) 0 0) ∙ ap (λ (l : List ℕ). get_or l 0 0) (widths-rest supply)
      ∙ width-first (drop 1 supply) (omega (arith, two, few, length-drop 1 supply))

  pub skip-is : get_or p 1 0 * get_or widths 1 0 ≡ get_or (drop 1 p) 0 0 * states_of (drop 1 (drop 1 supply))
  skip-is = ap (λ (n : ℕ). get_or p 1 0 * n) second-wide ∙ ap (λ (n : ℕ). n * states_of (drop 1 (drop 1 supply))) (sym (get_or-drop 1 p 0 0))

-- lots of two categories that fit
fits-two : (supply p : List ℕ) → length p ≡ 2 → length p ≤ length supply → IsTrue (is_within p supply)
    → (get_or p 0 0 ≤ get_or supply 0 0) × (get_or p 1 0 ≤ get_or supply 1 0)
fits-two supply [] two few fits = absurd (omega (arith, two))
fits-two supply (a ∷ []) two few fits = absurd (omega (arith, two))
fits-two supply (a ∷ b ∷ c ∷ p) two few fits = absurd (omega (arith, two))
fits-two [] (a ∷ b ∷ []) two few fits = absurd (omega (arith, few))
fits-two (u ∷ []) (a ∷ b ∷ []) two few fits = absurd (omega (arith, few))
fits-two (u ∷ v ∷ supply) (a ∷ b ∷ []) two few fits =
    let first = and_parts (nat_le a u) (is_within (b ∷ []) (v ∷ supply)) fits in
    let second = and_parts (nat_le b v) (is_within [] supply) first.1 in
    (leb-true a u first.0, leb-true b v second.0)

module _ (supply widths p : List ℕ) (is : widths ≡ widths_of supply) (two : length p ≡ 2) (few : length p ≤ length supply)
    (fits : IsTrue (is_within p supply)) where
  abbrev W : ℕ
  W = get_or widths 0 0

  abbrev K : ℕ
  K = get_or p 1 0 * get_or widths 1 0

  abbrev start-at : ℕ
  start-at = get_or p 0 0 * W + K

  row-width : W ≡ states_of (drop 1 supply)
  row-width = row-is supply widths p is two few fits

  row-skip : K ≡ get_or (drop 1 p) 0 0 * states_of (drop 1 (drop 1 supply))
  row-skip = skip-is supply widths p is two few fits

  -- the lots of the second category take less than a row
  pub skip-less : K < W
  skip-less =
      let low = (fits-two supply p two few fits).1 in
      let unit = states_of (drop 1 (drop 1 supply)) in
      let row : states_of (drop 1 supply) ≡ (get_or (drop 1 supply) 0 0 + 1) * unit = states-first (drop 1 supply) (omega (arith, two, few, length-drop 1 supply)) in
      let back : get_or (drop 1 p) 0 0 ≤ get_or (drop 1 supply) 0 0 = omega (arith, low, get_or-drop 1 p 0 0, get_or-drop 1 supply 0 0) in
      let most : get_or (drop 1 p) 0 0 * unit ≤ get_or (drop 1 supply) 0 0 * unit = mul-le-mul_right unit back in
      omega (arith, row, most, states-positive (drop 1 (drop 1 supply)), row-width, row-skip)

  whole-rows : states_of supply ≡ (get_or supply 0 0 - get_or p 0 0) * W + get_or p 0 0 * W + W
  whole-rows =
      let a = get_or p 0 0 in
      let u = get_or supply 0 0 in
      let low = (fits-two supply p two few fits).0 in
      let all : states_of supply ≡ (u + 1) * W = states-first supply (omega (arith, two, few)) ∙ ap (λ (n : ℕ). (u + 1) * n) (sym row-width) in
      let sum : u - a + a ≡ u = omega (arith, low) in
      let product : (u - a + a) * W ≡ (u - a) * W + a * W = omega arith in
      let same : (u - a + a) * W ≡ u * W = ap (λ (n : ℕ). n * W) sum in
      omega (arith, all, product, same)

  -- the place of the lots is within the line
  pub start-inside : start-at ≤ states_of supply
  start-inside = omega (arith, whole-rows, skip-less)

  -- what is left from there on are rows and one run
  pub left-rows : states_of supply - start-at ≡ (get_or supply 0 0 - get_or p 0 0 + 1 - 1) * W + (W - K)
  left-rows =
      let one : get_or supply 0 0 - get_or p 0 0 + 1 - 1 ≡ get_or supply 0 0 - get_or p 0 0 = omega arith in
      let rest : states_of supply - start-at ≡ (get_or supply 0 0 - get_or p 0 0) * W + (W - K) = omega (arith, whole-rows, skip-less) in
      rest ∙ ap (λ (n : ℕ). n * W + (W - K)) (sym one)

  -- with these raised each place of the line is as after the bid
  pub two-back : {A : Type 0} (number : A → ℤ) (worth : ℤ) (line below made : List A) (k : ℕ) → length line ≡ states_of supply
      → k ≡ length line - start-at → length made ≡ k
      → ((q i : ℕ) → q < get_or supply 0 0 - get_or p 0 0 + 1 → i < W - K
      → get_or (map number made) (q * W + i) (pos 0)
      ≡ int_max (get_or (map number (take k (drop start-at line))) (q * W + i) (pos 0)) (worth +ℤ get_or (map number (take k below)) (q * W + i) (pos 0)))
      → ((q i : ℕ) → i < W → W - K ≤ i
      → get_or (map number made) (q * W + i) (pos 0) ≡ get_or (map number (take k (drop start-at line))) (q * W + i) (pos 0))
      → (s : ℕ) → s < length line
      → get_or (map number (put_mid start-at k line made)) s (pos 0) ≡ raised supply (map number below) p worth s (get_or (map number line) s (pos 0))
  two-back number worth line below made k places k_is count own kept s h =
      let same : length (map number line) ≡ length line = length-map line number in
      let S = states_of (drop 1 supply) in
      let skipped = get_or (drop 1 p) 0 0 * states_of (drop 1 (drop 1 supply)) in
      let fronts : (q i : ℕ) → q < get_or supply 0 0 - get_or p 0 0 + 1 → i < S - skipped → q * S + i < k
      → get_or (map number made) (q * S + i) (pos 0)
      ≡ int_max (get_or (map number line) (start-at + (q * S + i)) (pos 0)) (worth +ℤ get_or (map number below) (q * S + i) (pos 0)) =
      λ q i low front inside.
      subst (λ (w : ℕ). get_or (map number made) (q * w + i) (pos 0)
      ≡ int_max (get_or (map number (take k (drop start-at line))) (q * w + i) (pos 0)) (worth +ℤ get_or (map number (take k below)) (q * w + i) (pos 0)))
      row-width (own q i low (omega (arith, front, row-width, row-skip)))
      ∙ ap (λ (z : ℤ). int_max z (worth +ℤ get_or (map number (take k below)) (q * S + i) (pos 0))) (read-number number line start-at k (q * S + i) inside)
      ∙ ap (λ (z : ℤ). int_max (get_or (map number line) (start-at + (q * S + i)) (pos 0)) (worth +ℤ z)) (read-first number below k (q * S + i) inside) in
      let backs : (q i : ℕ) → i < S → S - skipped ≤ i → q * S + i < k
      → get_or (map number made) (q * S + i) (pos 0) ≡ get_or (map number line) (start-at + (q * S + i)) (pos 0) =
      λ q i low past inside.
      subst (λ (w : ℕ). get_or (map number made) (q * w + i) (pos 0) ≡ get_or (map number (take k (drop start-at line))) (q * w + i) (pos 0))
      row-width (kept q i (omega (arith, low, row-width)) (omega (arith, past, row-width, row-skip)))
      ∙ read-number number line start-at k (q * S + i) inside in
      read-put number start-at k line made s
      ∙ rows-back supply p (map number below) worth two few (map number line) (map number made) start-at k (same ∙ places)
      (ap (λ (n : ℕ). get_or p 0 0 * n + K) row-width ∙ ap (λ (n : ℕ). get_or p 0 0 * S + n) row-skip)
      (omega (arith, skip-less, row-width, row-skip)) (omega (arith, same, k_is)) (omega (arith, same, places, start-inside)) (length-map made number ∙ count)
      fronts backs s (omega (arith, same, h))
