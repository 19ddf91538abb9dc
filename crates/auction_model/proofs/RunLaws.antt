-- A bid's box in the mixed radix, block by block.
use Rattle.std.specs.Prelude.{List, [], drop, get_or, length, nat_le, pos, refl, suc, take, unsigned_abs, ℕ, ℤ, ◌%◌, ◌*◌, ◌+ℤ◌, ◌+◌, ◌-◌, ◌/◌, ◌<◌}
use Rattle.std.specs.Prelude.{◌∷◌, ◌≡◌, ◌≤◌}
use Rattle.std.specs.Int.{int_max}
use Rattle.std.proofs.Common.{sym, ◌∙◌, ap, arith, inl, inr}
use Rattle.std.proofs.lemmas.Bool.{cond-false, and_left, lt-leb, le-leb, cases_lt}
use Rattle.std.proofs.lemmas.Nat.{div-mul-add, mod-mul-add, div_below, mod_below, div-add-mod', le-div}
use Rattle.std.proofs.lemmas.List.{get_or-drop, get_or_past, length-take}
use Rattle.auction_model.specs.Package.{is_within, less}
use Rattle.auction_model.specs.Place.{states_of, place_of, left_at, widths_of}
use Rattle.auction_model.specs.Steps.{raised}
use Rattle.auction_model.proofs.PlaceLaws.{states-positive, place_of-left_at, place-less_below}
use Rattle.auction_model.proofs.PackageLaws.{less-empty}
use Rattle.auction_model.proofs.PartReads.{read-part, read-before, read-middle, read-after}
use borrow.Rule.Slice.PartMut.{put_mid}

-- a bid of no category fits everywhere and leaves all
pub raised-all : (supply : List ℕ) (below : List ℤ) (worth : ℤ) (s : ℕ) (old : ℤ) → s < states_of supply
    → raised supply below [] worth s old ≡ int_max old (worth +ℤ get_or below s (pos 0))
raised-all supply below worth s old h =
    ap (λ n. int_max old (worth +ℤ get_or below n (pos 0))) (ap (place_of supply) (less-empty (left_at supply s)) ∙ place_of-left_at supply s h)

-- the width of the first category's blocks
pub width-first : (supply : List ℕ) → 0 < length supply → get_or (widths_of supply) 0 0 ≡ states_of (drop 1 supply)
width-first [] h = absurd (omega arith)
width-first (u ∷ supply) h = refl

-- all widths but the first are those of the supply without its first category
pub widths-rest : (supply : List ℕ) → drop 1 (widths_of supply) ≡ widths_of (drop 1 supply)
widths-rest [] = refl
widths-rest (u ∷ supply) = refl

-- there is one width for each category
pub widths-count : (supply : List ℕ) → length (widths_of supply) ≡ length supply
widths-count [] = refl
widths-count (u ∷ supply) = ap suc (widths-count supply)

-- there are as many blocks as lots of the first category, and one more, and they hold all places
pub states-first : (supply : List ℕ) → 0 < length supply → states_of supply ≡ (get_or supply 0 0 + 1) * states_of (drop 1 supply)
states-first [] h = absurd (omega arith)
states-first (u ∷ supply) h = omega arith

-- a block has no more places than the whole supply
pub width-at_most : (supply : List ℕ) → 0 < length supply → states_of (drop 1 supply) ≤ states_of supply
width-at_most [] h = absurd (omega arith)
width-at_most (u ∷ supply) h = omega arith

-- a place of a block that has too few of the first category
raised-low : (supply p : List ℕ) (below : List ℤ) (worth : ℤ) (q r : ℕ) (old : ℤ) → 0 < length p → length p ≤ length supply → r < states_of (drop 1 supply)
    → q < get_or p 0 0 → raised supply below p worth (q * states_of (drop 1 supply) + r) old ≡ old
raised-low [] p below worth q r old some few h low = absurd (omega arith)
raised-low (u ∷ supply) [] below worth q r old some few h low = absurd (omega arith)
raised-low (u ∷ supply) (a ∷ p) below worth q r old some few h low =
    rw (div-mul-add q (states_of supply) r h, mod-mul-add q (states_of supply) r h)
    (cond-false _ _ old (and_left (nat_le a q) (is_within p (left_at supply r)) (lt-leb a q low)))

-- a place of another block: the rest of the bid is counted in that block, from the part of the line that lies that many blocks before
pub raised-high : (supply p : List ℕ) (below part : List ℤ) (worth : ℤ) (q r : ℕ) (old : ℤ) → 0 < length p → length p ≤ length supply
    → r < states_of (drop 1 supply) → get_or p 0 0 ≤ q
    → ((i : ℕ) → i < states_of (drop 1 supply) → get_or part i (pos 0) ≡ get_or below ((q - get_or p 0 0) * states_of (drop 1 supply) + i) (pos 0))
    → raised supply below p worth (q * states_of (drop 1 supply) + r) old ≡ raised (drop 1 supply) part (drop 1 p) worth r old
raised-high [] p below part worth q r old some few h high reads = absurd (omega arith)
raised-high (u ∷ supply) [] below part worth q r old some few h high reads = absurd (omega arith)
raised-high (u ∷ supply) (a ∷ p) below part worth q r old some few h high reads =
    let at = place_of supply (less (left_at supply r) p) in
    rw (div-mul-add q (states_of supply) r h, mod-mul-add q (states_of supply) r h, le-leb a q high, ← reads at (place-less_below supply p r h)) refl

-- a place as a block and a place in it
split-place : (S s : ℕ) → 0 < S → s / S * S + s % S ≡ s
split-place S s h = div-add-mod' s S

-- places before the first block with enough of the first category keep their entries
pub raised-before : (supply p : List ℕ) (below : List ℤ) (worth : ℤ) (s : ℕ) (old : ℤ) → 0 < length p → length p ≤ length supply
    → s < get_or p 0 0 * states_of (drop 1 supply) → raised supply below p worth s old ≡ old
raised-before supply p below worth s old some few h =
    let S = states_of (drop 1 supply) in
    let positive : 0 < S = states-positive (drop 1 supply) in
    ap (λ n. raised supply below p worth n old) (sym (div-add-mod' s S))
    ∙ raised-low supply p below worth (s / S) (s % S) old some few (mod_below s S positive) (div_below s S (get_or p 0 0) positive h)

-- the last category of a bid: its places are one run
pub raised-last : (supply p : List ℕ) (below : List ℤ) (worth : ℤ) (s : ℕ) (old : ℤ) → length p ≡ 1 → 1 ≤ length supply
    → get_or p 0 0 * states_of (drop 1 supply) ≤ s → s < states_of supply
    → raised supply below p worth s old ≡ int_max old (worth +ℤ get_or below (s - get_or p 0 0 * states_of (drop 1 supply)) (pos 0))
raised-last supply p below worth s old one some from inside =
    let S = states_of (drop 1 supply) in
    let a = get_or p 0 0 in
    let q = s / S in
    let r = s % S in
    let positive : 0 < S = states-positive (drop 1 supply) in
    let r_below : r < S = mod_below s S positive in
    let high : a ≤ q = le-div a s S positive from in
    let up : q * S + r ≡ s = div-add-mod' s S in
    let part = drop ((q - a) * S) below in
    let split : (q - a) * S + a * S ≡ q * S = split-product a q S high in
    let back : (q - a) * S + r ≡ s - a * S = omega (arith, up, split) in
    let none : drop 1 p ≡ [] = one-left p one in
    ap (λ n. raised supply below p worth n old) (sym up)
    ∙ raised-high supply p below part worth q r old (omega arith) (omega arith) r_below high (λ i h. get_or-drop ((q - a) * S) below i (pos 0))
    ∙ ap (λ l. raised (drop 1 supply) part l worth r old) none
    ∙ raised-all (drop 1 supply) part worth r old r_below
    ∙ ap (λ z. int_max old (worth +ℤ z)) (get_or-drop ((q - a) * S) below r (pos 0) ∙ ap (λ n. get_or below n (pos 0)) back)
  where
    one-left : (p : List ℕ) → length p ≡ 1 → drop 1 p ≡ []
    one-left [] h = absurd (omega arith)
    one-left (a ∷ []) h = refl
    one-left (a ∷ b ∷ p) h = absurd (omega arith)

    split-product : (a b S : ℕ) → a ≤ b → (b - a) * S + a * S ≡ b * S
    split-product a b S h =
        let d = b - a in
        let whole : d + a ≡ b = omega arith in
        let sum : (d + a) * S ≡ d * S + a * S = omega arith in
        sym sum ∙ ap (λ x. x * S) whole

-- one run written back into the line
module _ (supply p : List ℕ) (below line ys : List ℤ) (worth : ℤ) (one : length p ≡ 1) (some : 1 ≤ length supply)
    (places : length line ≡ states_of supply) where
  from : ℕ
  from = get_or p 0 0 * states_of (drop 1 supply)

  -- with the run from the bid's first place written anew each place of the line is as after the bid
  pub run-back : (start k : ℕ) → start ≡ get_or p 0 0 * states_of (drop 1 supply) → k ≡ length line - start → start ≤ length line → length ys ≡ k
      → ((i : ℕ) → i < k → get_or ys i (pos 0) ≡ int_max (get_or line (start + i) (pos 0)) (worth +ℤ get_or below i (pos 0)))
      → (s : ℕ) → s < length line → get_or (put_mid start k line ys) s (pos 0) ≡ raised supply below p worth s (get_or line s (pos 0))
  run-back start k is few inside count reads s h =
      elim (cases_lt s start) [
        | inl low ↦
            read-before start k line ys inside count s low
            ∙ sym (raised-before supply p below worth s (get_or line s (pos 0)) (omega arith) (omega arith) (rw is at low))
        | inr high ↦
            let i = s - start in
            let up : start + i ≡ s = omega arith in
            let low : i < k = omega arith in
            ap (λ n. get_or (put_mid start k line ys) n (pos 0)) (sym up)
            ∙ read-middle start k line ys inside count i low
            ∙ reads i low
            ∙ ap (λ n. int_max (get_or line n (pos 0)) (worth +ℤ get_or below i (pos 0))) up
            ∙ ap (λ n. int_max (get_or line s (pos 0)) (worth +ℤ get_or below (s - n) (pos 0))) is
            ∙ sym (raised-last supply p below worth s (get_or line s (pos 0)) one some (rw is at high) (omega arith))
      ]

-- one block written back into the line
module _ (supply p : List ℕ) (below initial line ys : List ℤ) (worth : ℤ) (some : 0 < length p) (few : length p ≤ length supply) (q S : ℕ)
    (width : S ≡ states_of (drop 1 supply))
    (rest : (s : ℕ) → q * S ≤ s → get_or line s (pos 0) ≡ get_or initial s (pos 0)) (k : ℕ) (k-is : k ≡ S) (inside : q * S ≤ length line)
    (count : length ys ≡ k) where
  -- with block q written anew the places to its end are as after the bid, if those before it were
  pub block-done : (part : List ℤ) → get_or p 0 0 ≤ q
      → ((i : ℕ) → i < S → get_or part i (pos 0) ≡ get_or below ((q - get_or p 0 0) * S + i) (pos 0))
      → ((i : ℕ) → i < S → get_or ys i (pos 0) ≡ raised (drop 1 supply) part (drop 1 p) worth i (get_or line (q * S + i) (pos 0)))
      → ((s : ℕ) → s < q * S → get_or line s (pos 0) ≡ raised supply below p worth s (get_or initial s (pos 0)))
      → (s : ℕ) → s < (q + 1) * S → get_or (put_mid (q * S) k line ys) s (pos 0) ≡ raised supply below p worth s (get_or initial s (pos 0))
  block-done part high parts reads done s h =
      elim (cases_lt s (q * S)) [
        | inl low ↦ read-before (q * S) k line ys inside count s low ∙ done s low
        | inr over ↦
            let i = s - q * S in
            let up : q * S + i ≡ s = omega arith in
            let more : (q + 1) * S ≡ q * S + S = omega arith in
            let low : i < S = omega arith in
            let own : i < k = omega arith in
            let below_width : i < states_of (drop 1 supply) = omega (arith, low, width) in
            ap (λ n. get_or (put_mid (q * S) k line ys) n (pos 0)) (sym up)
            ∙ read-middle (q * S) k line ys inside count i own
            ∙ reads i low
            ∙ ap (raised (drop 1 supply) part (drop 1 p) worth i) (rest (q * S + i) (omega arith))
            ∙ sym (raised-high supply p below part worth q i (get_or initial (q * S + i) (pos 0)) some few below_width high (rw width at parts))
            ∙ ap (λ n. raised supply below p worth (q * n + i) (get_or initial (q * S + i) (pos 0))) (sym width)
            ∙ ap (λ n. raised supply below p worth n (get_or initial n (pos 0))) up
      ]

  -- the places past block q are still as they were at first
  pub block-rest : (s : ℕ) → (q + 1) * S ≤ s → get_or (put_mid (q * S) k line ys) s (pos 0) ≡ get_or initial s (pos 0)
  block-rest s h =
      let more : (q + 1) * S ≡ q * S + S = omega arith in
      read-after (q * S) k line ys inside count s (omega arith) ∙ rest s (omega arith)

-- a part of a line has no larger numbers
pub small-part : (below : List ℤ) (from n most : ℕ) → ((s : ℕ) → unsigned_abs (get_or below s (pos 0)) ≤ most) → (s : ℕ)
    → unsigned_abs (get_or (take n (drop from below)) s (pos 0)) ≤ most
small-part below from n most small s =
    elim (cases_lt s n) [
      | inl low ↦ rw (read-part below from n s low) (small (from + s))
      | inr past ↦ rw (get_or_past (take n (drop from below)) s (pos 0) (omega (arith, length-take n (drop from below)))) (omega arith)
    ]
