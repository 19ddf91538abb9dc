-- Lines in 16 bits, block by block.
use Rattle.std.specs.Prelude.{IfSome, Option, Some, None, ◌≡◌, ℕ, ◌+◌, ◌-◌, ◌*◌, ◌^◌, ◌≤◌, ◌<◌, IsTrue, List, ◌++◌, length, map, get_or, take, drop, ℤ, pos, ◌+ℤ◌, ◌≤ℤ◌}
use Rattle.std.specs.Int.{int_max}
use Rattle.std.proofs.Common.{inl, inr, sym, ◌∙◌, ap, arith, length-append}
use Rattle.std.proofs.lemmas.Bool.{cases_Bool, cases_lt, cond-true, cond-false}
use Rattle.std.proofs.lemmas.Int.{ints}
use Rattle.std.proofs.lemmas.List.{get_or-take, get_or-drop, get_or-append_right, get_or_append_left, length-take-le, length-drop, length-map}
use Rattle.choices.specs.Coarse.{IsFloor}
use Rattle.choices.proofs.CoarseLaws.{coarse-part}
use Rattle.auction_model.specs.Package.{is_within, less}
use Rattle.auction_model.specs.Place.{left_at, place_of, states_of}
use Rattle.auction_model.specs.Steps.{raised}
use Rattle.auction_model.proofs.LineLaws.{int_max-left}
use Rattle.auction_model.proofs.PartReads.{read-after, read-before, read-middle}
use Rattle.auction_model.proofs.PlaceLaws.{place-less}
use Rattle.wide_num.specs.Sums.{nth}
use Rattle.value_table.specs.Raising.{AreInUnits, MayBeInUnits}
use Rattle.value_table.proofs.NumberParts.{map-part, map-put}
use borrow.Rule.Slice.PartMut.{put_mid, post_of, take_put}

-- units of which a middle was written anew
module _ (a k : ℕ) (xs ys : List ℕ) (inside : a ≤ length xs) (count : length ys ≡ k) where
  units-before : (i : ℕ) → i < a → get_or (put_mid a k xs ys) i 0 ≡ get_or xs i 0
  units-before i h = sym (get_or-take a (put_mid a k xs ys) i 0 h) ∙ ap (λ (l : List ℕ). get_or l i 0) (take_put a k xs ys inside)
      ∙ get_or-take a xs i 0 h

  past : (i : ℕ) → a ≤ i → get_or (put_mid a k xs ys) i 0 ≡ get_or (ys ++ post_of a k xs) (i - a) 0
  past i h = get_or-append_right (take a xs) (ys ++ post_of a k xs) a i 0 (length-take-le a xs inside) h

  units-middle : (i : ℕ) → i < k → get_or (put_mid a k xs ys) (a + i) 0 ≡ get_or ys i 0
  units-middle i h =
      let back : a + i - a ≡ i = omega arith in
      past (a + i) (omega arith) ∙ ap (λ (n : ℕ). get_or (ys ++ post_of a k xs) n 0) back ∙ get_or_append_left ys (post_of a k xs) 0 i (omega arith)

  units-after : (i : ℕ) → a + k ≤ i → get_or (put_mid a k xs ys) i 0 ≡ get_or xs i 0
  units-after i h =
      let up : a + (k + (i - a - k)) ≡ i = omega arith in
      past i (omega arith) ∙ get_or-append_right ys (post_of a k xs) k (i - a) 0 count (omega arith)
      ∙ get_or-drop k (drop a xs) (i - a - k) 0 ∙ get_or-drop a xs (k + (i - a - k)) 0 ∙ ap (λ (n : ℕ). get_or xs n 0) up

-- a list with a middle written anew is as long
length-put : {A : Type 0} (a k : ℕ) (xs ys : List A) → a + k ≤ length xs → length ys ≡ k → length (put_mid a k xs ys) ≡ length xs
length-put a k xs ys room count = omega (
  arith,
  length-append (take a xs) (ys ++ post_of a k xs),
  length-append ys (post_of a k xs),
  length-take-le a xs (omega (arith, room)),
  length-drop k (drop a xs),
  length-drop a xs,
  count,
  room,
)

floor-same : (unit l m : ℕ) (x y : ℤ) → l ≡ m → x ≡ y → (0 < m → pos (m * unit) ≤ℤ y) → 0 < l → pos (l * unit) ≤ℤ x
floor-same unit l m x y same equal floor some = rw (same, equal) (floor (rw same at some))

-- a line with a part written anew, rounded down
floor-put : (unit a k : ℕ) (line ys : List ℤ) (low zs : List ℕ) → a + k ≤ length line → length low ≡ length line → length ys ≡ k → length zs ≡ k
    → IsFloor unit line low → IsFloor unit ys zs → IsFloor unit (put_mid a k line ys) (put_mid a k low zs)
floor-put unit a k line ys low zs room same count counted floor part s inside some =
    let start : a ≤ length line = omega (arith, room) in
    let start_low : a ≤ length low = omega (arith, room, same) in
    let long : length (put_mid a k line ys) ≡ length line = length-put a k line ys room count in
    elim (cases_lt s a) [
      | inl before ↦ floor-same unit (get_or (put_mid a k low zs) s 0) (get_or low s 0) (nth (put_mid a k line ys) s) (nth line s)
          (units-before a k low zs start_low counted s before) (read-before a k line ys start count s before) (floor s (omega (arith, inside, long))) some
      | inr from ↦ elim (cases_lt s (a + k)) [
        | inl within ↦ (
            let i = s - a in
            let up : a + i ≡ s = omega (arith, from) in
            let low_i : i < k = omega (arith, up, within) in
            floor-same unit (get_or (put_mid a k low zs) s 0) (get_or zs i 0) (nth (put_mid a k line ys) s) (nth ys i)
            (ap (λ (n : ℕ). get_or (put_mid a k low zs) n 0) (sym up) ∙ units-middle a k low zs start_low counted i low_i)
            (ap (λ (n : ℕ). nth (put_mid a k line ys) n) (sym up) ∙ read-middle a k line ys start count i low_i)
            (part i (omega (arith, low_i, count))) some)
        | inr behind ↦ floor-same unit (get_or (put_mid a k low zs) s 0) (get_or low s 0) (nth (put_mid a k line ys) s) (nth line s)
            (units-after a k low zs start_low counted s behind) (read-after a k line ys start count s behind) (floor s (omega (arith, inside, long))) some
      ]
    ]

-- a bid changes nothing if the line has at least its worth and what the line below has
pub kept-none : (supply p : List ℕ) (line below : List ℤ) (worth : ℤ)
    → ((n : ℕ) → n < states_of supply → IsTrue (is_within p (left_at supply n)) → (worth +ℤ nth below (n - place_of supply p)) ≤ℤ nth line n)
    → (s : ℕ) → s < states_of supply → get_or line s (pos 0) ≡ raised supply below p worth s (get_or line s (pos 0))
kept-none supply p line below worth kept s inside =
    let old = get_or line s (pos 0) in
    let from = place_of supply (less (left_at supply s) p) in
    elim (cases_Bool (is_within p (left_at supply s))) [
      | inl here ↦
          let back : s - place_of supply p ≡ from = omega (arith, place-less supply p s inside here) in
          let rest : nth below (s - place_of supply p) ≡ nth below from = ap (nth below) back in
          let enough : (worth +ℤ nth below from) ≤ℤ old = omega (arith, ints, kept s inside here, rest) in
          sym (cond-true (is_within p (left_at supply s)) (int_max old (worth +ℤ nth below from)) old here ∙ int_max-left old (worth +ℤ nth below from) enough)
      | inr misses ↦ sym (cond-false (is_within p (left_at supply s)) (int_max old (worth +ℤ nth below from)) old misses)
    ]

module _ {A : Type 0} (number : A → ℤ) (shift : ℕ) where
  -- a part of both lines
  pub units-part : (line below : List A) (low high : List ℕ) (a b k m : ℕ) → a + k ≤ length line → b + m ≤ length below
      → AreInUnits number shift line below low high
      → AreInUnits number shift (take k (drop a line)) (take m (drop b below)) (take k (drop a low)) (take m (drop b high))
  units-part line below low high a b k m room room_below c =
      let long = length-map line number in
      let long_below = length-map below number in
      record {
        small = c.small;
        coarse = rw (map-part number line a k, map-part number below b m)
            (coarse-part (2 ^ shift) (map number line) (map number below) low high a b k m (omega (arith, room, long)) (omega (arith, room_below, long_below))
            c.coarse);
        places = part-long low a k (omega (arith, room, c.places)) ∙ sym (part-long line a k room);
        places_below = part-long high b m (omega (arith, room_below, c.places_below)) ∙ sym (part-long below b m room_below);
      }
    where
      part-long : {B : Type 0} (xs : List B) (from n : ℕ) → from + n ≤ length xs → length (take n (drop from xs)) ≡ n
      part-long xs from n room = let long = length-drop from xs in length-take-le n (drop from xs) (omega (arith, long, room))

  -- both lines with a part of the first written anew
  pub units-put : (line made below rest : List A) (low zs high rests : List ℕ) (a k : ℕ) → a + k ≤ length line → length made ≡ k
      → AreInUnits number shift line below low high → AreInUnits number shift made rest zs rests
      → AreInUnits number shift (put_mid a k line made) below (put_mid a k low zs) high
  units-put line made below rest low zs high rests a k room count c part =
      let counted : length zs ≡ k = part.places ∙ count in
      let whole : length (put_mid a k low zs) ≡ length (put_mid a k line made) =
      length-put a k low zs (omega (arith, room, c.places)) counted ∙ c.places ∙ sym (length-put a k line made room count) in
      record {
        small = c.small;
        coarse = record {
          floor = rw (map-put number a k line made)
              (floor-put (2 ^ shift) a k (map number line) (map number made) low zs (omega (arith, room, length-map line number)) c.coarse.places
              (length-map made number ∙ count) counted c.coarse.floor part.coarse.floor);
          ceiling = c.coarse.ceiling;
          places = whole ∙ sym (length-map (put_mid a k line made) number);
          places_below = c.coarse.places_below;
        };
        places = whole;
        places_below = c.places_below;
      }

  -- with the first rounded down once more
  pub units-anew : (line made below : List A) (low zs high : List ℕ) → AreInUnits number shift line below low high
      → IsFloor (2 ^ shift) (map number made) zs → length zs ≡ length made → AreInUnits number shift made below zs high
  units-anew line made below low zs high c floor count = record {
    small = c.small;
    coarse = record {
      floor = floor;
      ceiling = c.coarse.ceiling;
      places = count ∙ sym (length-map made number);
      places_below = c.coarse.places_below;
    };
    places = count;
    places_below = c.places_below;
  }

-- if there is still a shift, it is the one before
pub units-kept : {A : Type 0} (number : A → ℤ) (before after : Option ℕ) (line below : List A) (low high : List ℕ) → IfSome after (λ k. before ≡ Some k)
    → MayBeInUnits number before line below low high → MayBeInUnits number after line below low high
units-kept number before None line below low high same units = tt
units-kept number before (Some k) line below low high same units = rw same at units
