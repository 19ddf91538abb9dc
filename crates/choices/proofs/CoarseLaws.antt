-- Lines in units, their parts, and masks.
use Rattle.std.specs.Prelude.{IsTrue, List, [], drop, get_or, length, nat_le, pos, suc, take, ℕ, ℤ, ◌%◌, ◌*◌, ◌+ℤ◌, ◌+◌, ◌-◌, ◌/◌, ◌<◌, ◌^◌, ◌∷◌, ◌≡◌}
use Rattle.std.specs.Prelude.{◌≤ℤ◌, ◌≤◌}
use Rattle.std.proofs.Common.{sym, ◌∙◌, ap, subst, arith}
use Rattle.std.proofs.lemmas.Bool.{and_parts, leb-true}
use Rattle.std.proofs.lemmas.Int.{ints}
use Rattle.std.proofs.lemmas.List.{length-drop, length-take-le, get_or-take, get_or-drop}
use Rattle.std.proofs.lemmas.Nat.{div_below, mod_below, div-add-mod', mul-le}
use Rattle.std.proofs.Math.Nat.{le-div_iff_mul-le}
use Rattle.auction_model.specs.Package.{is_within}
use Rattle.auction_model.specs.Place.{left_at, place_of, states_of}
use Rattle.auction_model.proofs.PlaceLaws.{place-less, states-positive}
use Rattle.auction_model.proofs.PartReads.{read-part}
use Rattle.wide_num.specs.Sums.{nth}
use Rattle.choices.specs.Coarse.{AreCoarse, HasMask, IsCeiling, IsFloor, Marks}

-- a number of a part of a list
pub read-units : (xs : List ℕ) (from n i : ℕ) → i < n → get_or (take n (drop from xs)) i 0 ≡ get_or xs (from + i) 0
read-units xs from n i h = get_or-take n (drop from xs) i 0 h ∙ get_or-drop from xs i 0

-- how long a part is
part-length : (xs : List ℤ) (from n : ℕ) → from + n ≤ length xs → length (take n (drop from xs)) ≡ n
part-length xs from n room = let long = length-drop from xs in length-take-le n (drop from xs) (omega (arith, long, room))

units-length : (xs : List ℕ) (from n : ℕ) → from + n ≤ length xs → length (take n (drop from xs)) ≡ n
units-length xs from n room = let long = length-drop from xs in length-take-le n (drop from xs) (omega (arith, long, room))

floor-part : (unit : ℕ) (line : List ℤ) (low : List ℕ) (a k : ℕ) → a + k ≤ length line → IsFloor unit line low
    → IsFloor unit (take k (drop a line)) (take k (drop a low))
floor-part unit line low a k room floor s inside some =
    let long = part-length line a k room in
    let lt : s < k = omega (arith, inside, long) in
    let any : 0 < get_or low (a + s) 0 = rw (read-units low a k s lt) at some in
    rw (read-units low a k s lt, read-part line a k s lt) (floor (a + s) (omega (arith, lt, room)) any)

ceiling-part : (unit : ℕ) (line : List ℤ) (high : List ℕ) (a k : ℕ) → a + k ≤ length line → IsCeiling unit line high
    → IsCeiling unit (take k (drop a line)) (take k (drop a high))
ceiling-part unit line high a k room c = record {
  above = λ s inside. let lt : s < k = omega (arith, inside, part-length line a k room) in
      rw (read-units high a k s lt, read-part line a k s lt) (c.above (a + s) (omega (arith, lt, room)));
  short = λ s inside. let lt : s < k = omega (arith, inside, part-length line a k room) in
      rw (read-units high a k s lt) (c.short (a + s) (omega (arith, lt, room)));
}

-- a part of both lines
pub coarse-part : (unit : ℕ) (line below : List ℤ) (low high : List ℕ) (a b k m : ℕ) → a + k ≤ length line → b + m ≤ length below
    → AreCoarse unit line below low high
    → AreCoarse unit (take k (drop a line)) (take m (drop b below)) (take k (drop a low)) (take m (drop b high))
coarse-part unit line below low high a b k m room room_below c = record {
  floor = floor-part unit line low a k room c.floor;
  ceiling = ceiling-part unit below high b m room_below c.ceiling;
  places = units-length low a k (omega (arith, room, c.places)) ∙ sym (part-length line a k room);
  places_below = units-length high b m (omega (arith, room_below, c.places_below)) ∙ sym (part-length below b m room_below);
}

-- the last categories are those of the rest
rest-lots : (level : ℕ) (supply lots : List ℕ) → 0 < length lots → level ≤ length (drop 1 lots)
    → drop (length lots - level) lots ≡ drop (length (drop 1 lots) - level) (drop 1 lots)
rest-lots level supply [] some le = absurd (omega (arith, some))
rest-lots level supply (a ∷ lots) some le = let step : suc (length lots) - level ≡ suc (length lots - level) = omega (arith, le) in ap (λ (n : ℕ). drop n
    (a ∷ lots)) step

rest-supply : (level : ℕ) (supply lots : List ℕ) → 0 < length lots → 0 < length supply → level ≤ length (drop 1 lots)
    → drop (length lots - level) supply ≡ drop (length (drop 1 lots) - level) (drop 1 supply)
rest-supply level supply [] some few le = absurd (omega (arith, some))
rest-supply level [] (a ∷ lots) some few le = absurd (omega (arith, few))
rest-supply level (b ∷ supply) (a ∷ lots) some few le = let step : suc (length lots) - level ≡ suc (length lots - level) = omega (arith, le) in ap (λ
    (n : ℕ). drop n (b ∷ supply)) step

rest-length : (lots : List ℕ) → length (drop 1 lots) ≤ length lots
rest-length lots = omega (arith, length-drop 1 lots)

-- the mask of a package serves for the blocks of the rest
pub mask-down : (level : ℕ) (supply lots mask : List ℕ) → 0 < length lots → 0 < length supply → HasMask level supply lots mask
    → HasMask level (drop 1 supply) (drop 1 lots) mask
mask-down level supply lots mask some few has = λ deep le.
    rw (sym (rest-supply level supply lots some few le), sym (rest-lots level supply lots some le)) (has deep (omega (arith, le, rest-length lots)))

-- and the other way round
pub mask-up : (level : ℕ) (supply lots mask : List ℕ) → 0 < length lots → 0 < length supply → level ≤ length (drop 1 lots)
    → HasMask level (drop 1 supply) (drop 1 lots) mask → HasMask level supply lots mask
mask-up level supply lots mask some few le has = λ deep _.
    rw (rest-supply level supply lots some few le, rest-lots level supply lots some le) (has deep le)

drop-none : (xs ys : List ℕ) → drop (length ys - length ys) xs ≡ xs
drop-none xs ys = let none : length ys - length ys ≡ 0 = omega arith in ap (λ (n : ℕ). drop n xs) none

-- the mask of all its categories
pub mask-whole : (supply lots mask : List ℕ) → Marks supply lots mask → HasMask (length lots) supply lots mask
mask-whole supply lots mask marks = λ _ _. rw (drop-none supply lots, drop-none lots lots) marks

pub mask-here : (level : ℕ) (supply lots mask : List ℕ) → 0 < length lots → length lots ≡ level → HasMask level supply lots mask → Marks supply lots mask
mask-here level supply lots mask some is has =
    let whole : HasMask (length lots) supply lots mask = rw (sym is) at has in
    rw (drop-none supply lots, drop-none lots lots) at (whole some (omega arith))

-- a package of one category fits in a run of places
pub marks-run : (supply p mask : List ℕ) (from to : ℕ) → length p ≡ 1 → length p ≤ length supply → from ≡ get_or p 0 0 * states_of (drop 1 supply)
    → to ≡ (get_or supply 0 0 + 1) * states_of (drop 1 supply)
    → ((n : ℕ) → from ≤ n → n < to → get_or mask n 0 ≡ 2 ^ 16 - 1) → Marks supply p mask
marks-run supply [] mask from to one few is to_is run n low fits = absurd (omega (arith, one))
marks-run [] (a ∷ p) mask from to one few is to_is run n low fits = absurd (omega (arith, few))
marks-run (b ∷ supply) (a ∷ p) mask from to one few is to_is run n low fits =
    let both = and_parts (nat_le a (n / states_of supply)) (is_within p (left_at supply (n % states_of supply))) fits in
    let up : a * states_of supply ≤ n = (le-div_iff_mul-le (states-positive supply)).0 (leb-true a (n / states_of supply) both.0) in
    let whole : states_of (b ∷ supply) ≡ (b + 1) * states_of supply = omega arith in
    run n (omega (arith, is, up)) (omega (arith, to_is, low, whole))

-- the mask of the rest, once for each count of the first category with which the package fits
pub marks-parts : (supply p part mask : List ℕ) (W : ℕ) → 0 < length p → length p ≤ length supply → W ≡ states_of (drop 1 supply)
    → Marks (drop 1 supply) (drop 1 p) part
    → ((q i : ℕ) → get_or p 0 0 ≤ q → q < get_or supply 0 0 + 1 → i < W → get_or mask (q * W + i) 0 ≡ get_or part i 0)
    → Marks supply p mask
marks-parts supply [] part mask W some few width marks parts n low fits = absurd (omega (arith, some))
marks-parts [] (a ∷ p) part mask W some few width marks parts n low fits = absurd (omega (arith, few))
marks-parts (b ∷ supply) (a ∷ p) part mask W some few width marks parts n low fits =
    let S = states_of supply in
    let q = n / S in
    let r = n % S in
    let positive : 0 < S = states-positive supply in
    let whole : states_of (b ∷ supply) ≡ (b + 1) * S = omega arith in
    let n_is : q * S + r ≡ n = div-add-mod' n S in
    let r_low : r < S = mod_below n S positive in
    let q_low : q < b + 1 = div_below n S (b + 1) positive (omega (arith, low, whole)) in
    let both = and_parts (nat_le a q) (is_within p (left_at supply r)) fits in
    let up : a ≤ q = leb-true a q both.0 in
    let here : get_or mask (q * S + r) 0 ≡ get_or part r 0 = subst (λ (w : ℕ). get_or mask (q * w + r) 0 ≡ get_or part r 0) width (parts q r up q_low
    (omega (arith, r_low, width))) in
    sym (ap (λ (m : ℕ). get_or mask m 0) n_is) ∙ here ∙ marks r r_low both.1

-- what holds in units holds
units-keep : (unit h w l : ℕ) (above worth own : ℤ) → h + w ≤ l → above ≤ℤ pos (h * unit) → worth ≤ℤ pos (w * unit) → pos (l * unit) ≤ℤ own
    → (worth +ℤ above) ≤ℤ own
units-keep unit h w l above worth own test over size floor =
    let product : (h + w) * unit ≤ l * unit = mul-le (h + w) unit l unit test (omega arith) in
    let apart : (h + w) * unit ≡ h * unit + w * unit = omega arith in
    omega (arith, ints, product, apart, over, size, floor)

-- a block has the worth and what the line below has wherever the package fits, if it does so in units at each place that its
-- mask names
pub coarse-keeps : (unit : ℕ) (supply p : List ℕ) (first w : ℕ) (line below : List ℤ) (low high mask : List ℕ) (worth : ℤ)
    → first ≡ place_of supply p → length line ≡ states_of supply → length below ≡ states_of supply → AreCoarse unit line below low high
    → 0 < w → worth ≤ℤ pos (w * unit) → Marks supply p mask
    → ((s : ℕ) → first + s < length low → get_or mask (first + s) 0 ≡ 2 ^ 16 - 1 → get_or high s 0 + w ≤ get_or low (first + s) 0)
    → (n : ℕ) → n < states_of supply → IsTrue (is_within p (left_at supply n)) → (worth +ℤ nth below (n - place_of supply p)) ≤ℤ nth line n
coarse-keeps unit supply p first w line below low high mask worth is places places_below c some size marks test n inside fits =
    let up : place_of supply p ≤ n = omega (arith, place-less supply p n inside fits) in
    let s = n - first in
    let n_is : first + s ≡ n = omega (arith, is, up) in
    let lies : first + s < length low = omega (arith, n_is, inside, places, c.places) in
    let named : get_or mask (first + s) 0 ≡ 2 ^ 16 - 1 = ap (λ (m : ℕ). get_or mask m 0) n_is ∙ marks n inside fits in
    let enough : get_or high s 0 + w ≤ get_or low (first + s) 0 = test s lies named in
    let any : 0 < get_or low (first + s) 0 = omega (arith, enough, some) in
    let own : pos (get_or low (first + s) 0 * unit) ≤ℤ nth line (first + s) = c.floor (first + s) (omega (arith, n_is, inside, places)) any in
    let rest : nth below s ≤ℤ pos (get_or high s 0 * unit) = c.ceiling.above s (omega (arith, inside, places_below)) in
    let keeps = units-keep unit (get_or high s 0) w (get_or low (first + s) 0) (nth below s) worth (nth line (first + s)) enough rest size own in
    let line_is : nth line (first + s) ≡ nth line n = ap (nth line) n_is in
    let below_is : nth below s ≡ nth below (n - place_of supply p) = ap (λ (m : ℕ). nth below (n - m)) is in
    omega (arith, ints, keeps, line_is, below_is)
