-- The rule of a bid in a block, from its parts and from its corners.
use Rattle.std.specs.Prelude.{Bool, IsTrue, List, [], drop, get_or, length, nat_le, refl, suc, take, ℕ, ℤ, ◌%◌, ◌*◌, ◌+ℤ◌, ◌+◌, ◌-◌, ◌/◌, ◌<◌, ◌^◌, ◌∷◌}
use Rattle.std.specs.Prelude.{◌≡◌, ◌≤ℤ◌, ◌≤◌}
use Rattle.std.proofs.Common.{inl, inr, length-drop, sym, ◌∙◌, ap, subst, arith}
use Rattle.std.proofs.lemmas.Bool.{and_parts, and_from, leb-true, le-leb, cases_lt}
use Rattle.std.proofs.lemmas.Int.{ints}
use Rattle.std.proofs.lemmas.List.{get_or-take, length-take-le}
use Rattle.std.proofs.lemmas.Nat.{div_below, mod_below, div-add-mod', div-mul-add, mod-mul-add, mul-add-lt}
use Rattle.std.proofs.Math.Nat.{le-div_iff_mul-le}
use Rattle.auction_model.specs.Package.{IsNothingFrom, is_within, less}
use Rattle.auction_model.specs.Place.{left_at, place_of, states_of}
use Rattle.auction_model.proofs.PlaceLaws.{left_at-less, left_at-whole, left_at-within, length-left_at, place-below, place-less, place-less_below}
use Rattle.auction_model.proofs.PlaceLaws.{place_of-left_at, states-positive}
use Rattle.auction_model.proofs.DominatedLaws.{less-within_self}
use Rattle.auction_model.proofs.TrimLaws.{trim-place, trim-within}
use Rattle.auction_model.proofs.PartReads.{read-part}
use Rattle.auction_model.proofs.RunLaws.{small-part}
use Rattle.wide_num.specs.Sums.{nth}
use Rattle.choices.proofs.MoreLots.{less-more}
use Rattle.table_check.specs.Block.{IsBlock}
use Rattle.table_check.specs.Corners.{KeepsBlock, BothGrow}
use Rattle.table_check.specs.Growth.{Grows}
use Rattle.table_check.specs.Narrow.{IsSmall}
use Rattle.table_check.proofs.BlockLaws.{place-none}

module _ (supply p : List ℕ) (s : ℕ) (low : s < states_of supply) where
  -- the place of a package that fits at s has no more than s
  low-within : IsTrue (is_within p (left_at supply s)) → IsTrue (is_within (left_at supply (place_of supply p)) (left_at supply s))
  low-within fits =
      let l = left_at supply s in
      let t = place_of supply (less l p) in
      let t_low : t < states_of supply = place-less_below supply p s low in
      let t_is : left_at supply t ≡ less l p = left_at-less supply p s low in
      let inside : IsTrue (is_within (left_at supply t) l) = subst (λ (k : List ℕ). IsTrue (is_within k l)) (sym t_is) (less-within_self l p) in
      let back : place_of supply (less l (left_at supply t)) + place_of supply (left_at supply t) ≡ s = place-less supply (left_at supply t) s low inside in
      let same : place_of supply (less l (left_at supply t)) ≡ place_of supply p = omega
      (arith, place-less supply p s low fits, back, place_of-left_at supply t t_low) in
      subst (λ (k : ℕ). IsTrue (is_within (left_at supply k) l)) same
      (subst (λ (k : List ℕ). IsTrue (is_within k l)) (sym (left_at-less supply (left_at supply t) s low)) (less-within_self l (left_at supply t)))

  -- the highest place that a package leaves has no less than is left at s
  high-within : IsTrue (is_within p supply) → IsTrue (is_within (left_at supply (place_of supply (less (left_at supply s) p))) (left_at supply
      (states_of supply - 1 - place_of supply p)))
  high-within fits =
      let H = states_of supply - 1 in
      let top : H < states_of supply = omega (arith, states-positive supply) in
      let whole : left_at supply H ≡ supply = left_at-whole supply in
      let at_top : IsTrue (is_within p (left_at supply H)) = subst (λ (k : List ℕ). IsTrue (is_within p k)) (sym whole) fits in
      let place : place_of supply (less (left_at supply H) p) ≡ H - place_of supply p = omega (arith, place-less supply p H top at_top) in
      let left : left_at supply (H - place_of supply p) ≡ less supply p = ap (left_at supply) (sym place) ∙ left_at-less supply p H top ∙ ap
      (λ (k : List ℕ). less k p) whole in
      let more : IsTrue (is_within (less (left_at supply s) p) (less supply p)) = less-more (left_at supply s) supply p (length-left_at supply s)
      (left_at-within supply s low) in
      subst (λ (k : List ℕ). IsTrue (is_within k (left_at supply (H - place_of supply p)))) (sym (left_at-less supply p s low))
      (subst (λ (k : List ℕ). IsTrue (is_within (less (left_at supply s) p) k)) (sym left) more)

-- if no line falls the corners show that the rule holds in a block
pub corner-keeps : (supply spans p : List ℕ) (first from S : ℕ) (grow : Bool) (line below : List ℤ) (worth : ℤ) → IsBlock supply spans p first
    → BothGrow supply grow line below → IsTrue grow → from ≡ first → S ≡ states_of supply
    → (worth +ℤ nth below (S - 1 - from)) ≤ℤ nth line from → KeepsBlock supply p line below worth
corner-keeps supply spans p first from S grow line below worth is both grows from_is size test n low fits =
    let high = place_of supply (less (left_at supply n) p) in
    let last = S - 1 - from in
    let place : from ≡ place_of supply p = from_is ∙ is.place in
    let last_is : states_of supply - 1 - place_of supply p ≡ last = omega (arith, size, place) in
    let from_low : from < states_of supply = omega (arith, place, place-below supply p is.fits) in
    let last_low : last < states_of supply = omega (arith, size, states-positive supply) in
    let lowest : IsTrue (is_within (left_at supply from) (left_at supply n)) = rw place (low-within supply p n low fits) in
    let highest : IsTrue (is_within (left_at supply high) (left_at supply last)) = subst (λ (k : ℕ). IsTrue (is_within (left_at supply high)
    (left_at supply k))) last_is (high-within supply p n low is.fits) in
    let own : nth line from ≤ℤ nth line n = both.line_grows grows from n from_low low lowest in
    let most : nth below high ≤ℤ nth below last = both.below_grows grows high last (place-less_below supply p n low) last_low highest in
    let high_is : high ≡ n - place_of supply p = omega (arith, place-less supply p n low fits) in
    let read : nth below high ≡ nth below (n - place_of supply p) = ap (nth below) high_is in
    omega (arith, ints, own, most, test, read)

-- a block of a line that never falls never falls
grows-part : (b : ℕ) (supply : List ℕ) (line part : List ℤ) (q : ℕ) → q ≤ b
    → ((i : ℕ) → i < states_of supply → nth part i ≡ nth line (q * states_of supply + i)) → Grows (b ∷ supply) line → Grows supply part
grows-part b supply line part q high reads grows = λ s t s_low t_low within.
    let W = states_of supply in
    let s_in : q * W + s < suc b * W = omega (arith, mul-add-lt q W s (suc b) (omega (arith, high)) s_low) in
    let t_in : q * W + t < suc b * W = omega (arith, mul-add-lt q W t (suc b) (omega (arith, high)) t_low) in
    let same : IsTrue (is_within (left_at (b ∷ supply) (q * W + s)) (left_at (b ∷ supply) (q * W + t))) =
    rw (div-mul-add q W s s_low, mod-mul-add q W s s_low, div-mul-add q W t t_low, mod-mul-add q W t t_low)
    (and_from (nat_le q q) (is_within (left_at supply s) (left_at supply t)) (le-leb q q (omega arith)) within) in
    rw (reads s s_low, reads t t_low) (grows (q * W + s) (q * W + t) s_in t_in same)

-- if neither line falls no part of them does
both-parts : (supply : List ℕ) (q r : ℕ) (grow : Bool) (line below : List ℤ) → 0 < length supply → q < get_or supply 0 0 + 1 → r ≤ q
    → BothGrow supply grow line below → BothGrow (drop 1 supply) grow (take (states_of (drop 1 supply)) (drop (q * states_of (drop 1 supply)) line))
    (take (states_of (drop 1 supply)) (drop (r * states_of (drop 1 supply)) below))
both-parts [] q r grow line below some high low both = absurd (omega (arith, some))
both-parts (b ∷ supply) q r grow line below some high low both = record {
  line_grows = λ g. grows-part b supply line _ q (omega (arith, high)) (read-part line (q * states_of supply) (states_of supply)) (both.line_grows g);
  below_grows = λ g. grows-part b supply below _ r (omega (arith, high, low)) (read-part below (r * states_of supply) (states_of supply))
      (both.below_grows g);
}

-- a part of a line, by its place
part-at : (line part : List ℤ) (here q width S : ℕ) → here ≡ q * S → width ≡ S → part ≡ take width (drop here line) → part ≡ take S (drop (q * S) line)
part-at line part here q width S here_is width_is part_is =
    part_is ∙ ap (λ (n : ℕ). take n (drop here line)) width_is ∙ ap (λ (n : ℕ). take S (drop n line)) here_is

-- these parts, as the code has them
pub both-part : (supply others : List ℕ) (q a here back width : ℕ) (grow : Bool) (line below part rest : List ℤ) → 0 < length supply
    → q < get_or supply 0 0 + 1 → others ≡ drop 1 supply → width ≡ states_of (drop 1 supply) → here ≡ q * states_of (drop 1 supply)
    → back ≡ (q - a) * states_of (drop 1 supply) → part ≡ take width (drop here line) → rest ≡ take width (drop back below)
    → BothGrow supply grow line below → BothGrow others grow part rest
both-part supply others q a here back width grow line below part rest some high o_is w_is here_is back_is part_is rest_is both =
    let S = states_of (drop 1 supply) in
    let part_at : part ≡ take S (drop (q * S) line) = part-at line part here q width S here_is w_is part_is in
    let rest_at : rest ≡ take S (drop ((q - a) * S) below) = part-at below rest back (q - a) width S back_is w_is rest_is in
    rw (o_is, part_at, rest_at) (both-parts supply q (q - a) grow line below some high (omega arith) both)

-- how long a part of a line is
pub part-length : (line : List ℤ) (here k : ℕ) → here + k ≤ length line → length (take k (drop here line)) ≡ k
part-length line here k room = let long : length (drop here line) ≡ length line - here = length-drop here line in
    length-take-le k (drop here line) (omega (arith, long, room))

-- a part has a place for each state of the other categories
pub part-places : (supply others : List ℕ) (here width : ℕ) (line part : List ℤ) → others ≡ drop 1 supply → width ≡ states_of (drop 1 supply)
    → here + states_of (drop 1 supply) ≤ length line → part ≡ take width (drop here line) → length part ≡ states_of others
part-places supply others here width line part o_is w_is room part_is =
    ap (λ (l : List ℤ). length l) part_is ∙ part-length line here width (omega (arith, w_is, room)) ∙ w_is ∙ ap states_of (sym o_is)

-- each part below `stop` in which the package fits keeps the rule
abbrev pub PartsKeep : List ℕ → List ℕ → ℕ → ℕ → ℕ → List ℤ → List ℤ → ℤ → Type 0
PartsKeep others few a S stop line below worth = (q : ℕ) → a ≤ q → q < stop
    → KeepsBlock others few (take S (drop (q * S) line)) (take S (drop ((q - a) * S) below)) worth

-- a block keeps the rule if each of its parts does in which the package fits
parts-keep : (supply p : List ℕ) (S : ℕ) (line below : List ℤ) (worth : ℤ) → 0 < length p → length p ≤ length supply → S ≡ states_of (drop 1 supply)
    → PartsKeep (drop 1 supply) (drop 1 p) (get_or p 0 0) S (get_or supply 0 0 + 1) line below worth → KeepsBlock supply p line below worth
parts-keep supply [] S line below worth some few width parts n low fits = absurd (omega (arith, some))
parts-keep [] (a ∷ p) S line below worth some few width parts n low fits = absurd (omega (arith, few))
parts-keep (b ∷ supply) (a ∷ p) S line below worth some few width parts n low fits =
    let W = states_of supply in
    let q = n / W in
    let r = n % W in
    let P = place_of supply p in
    let positive : 0 < W = states-positive supply in
    let whole : states_of (b ∷ supply) ≡ (b + 1) * W = omega arith in
    let n_is : q * W + r ≡ n = div-add-mod' n W in
    let r_low : r < W = mod_below n W positive in
    let q_low : q < b + 1 = div_below n W (b + 1) positive (omega (arith, low, whole)) in
    let both = and_parts (nat_le a q) (is_within p (left_at supply r)) fits in
    let up : a ≤ q = leb-true a q both.0 in
    let own = parts q up q_low r r_low both.1 in
    let inside : P ≤ r = omega (arith, place-less supply p r r_low both.1) in
    let here : nth (take S (drop (q * S) line)) r ≡ nth line n = read-part line (q * S) S r (omega (arith, width, r_low)) ∙ ap (λ (m : ℕ). nth line
    (q * m + r)) width ∙ ap (nth line) n_is in
    let rest : nth (take S (drop ((q - a) * S) below)) (r - P) ≡ nth below (n - (a * W + P)) =
    read-part below ((q - a) * S) S (r - P) (omega (arith, width, r_low)) ∙ ap (λ (m : ℕ). nth below ((q - a) * m + (r - P))) width ∙ ap (nth below)
    (apart q a W r P up inside n n_is) in
    omega (arith, ints, own, here, rest)
  where
    apart : (q a W r P : ℕ) → a ≤ q → P ≤ r → (n : ℕ) → q * W + r ≡ n → (q - a) * W + (r - P) ≡ n - (a * W + P)
    apart q a W r P up inside n n_is =
        let d = q - a in
        let sum : (d + a) * W ≡ d * W + a * W = omega arith in
        let is : d + a ≡ q = omega arith in
        let whole : q * W ≡ d * W + a * W = ap (λ (x : ℕ). x * W) (sym is) ∙ sum in
        omega (arith, whole, n_is, inside)

-- if these are all of its parts
pub block-keeps : (supply spans p others few : List ℕ) (first a stop : ℕ) (line below : List ℤ) (worth : ℤ) → IsBlock supply spans p first
    → others ≡ drop 1 supply → few ≡ drop 1 p → a ≡ get_or p 0 0 → get_or supply 0 0 + 1 ≤ stop
    → PartsKeep others few a (states_of (drop 1 supply)) stop line below worth → KeepsBlock supply p line below worth
block-keeps supply spans p others few first a stop line below worth is o_is f_is a_is all parts =
    let S = states_of (drop 1 supply) in
    parts-keep supply p S line below worth is.some is.categories refl
    (subst (λ (n : ℕ). PartsKeep (drop 1 supply) (drop 1 p) n S (get_or supply 0 0 + 1) line below worth) a_is
    (subst (λ (l : List ℕ). PartsKeep (drop 1 supply) l a S (get_or supply 0 0 + 1) line below worth) f_is
    (subst (λ (l : List ℕ). PartsKeep l few a S (get_or supply 0 0 + 1) line below worth) o_is
    (λ q low high. parts q low (omega (arith, high, all))))))

-- the parts that keep the rule, and one more, as the code has them
pub parts-more : (others few : List ℕ) (a S d here back width : ℕ) (line below part rest : List ℤ) (worth : ℤ) → width ≡ S → here ≡ d * S
    → back ≡ (d - a) * S → part ≡ take width (drop here line) → rest ≡ take width (drop back below)
    → PartsKeep others few a S d line below worth → KeepsBlock others few part rest worth → PartsKeep others few a S (d + 1) line below worth
parts-more others few a S d here back width line below part rest worth w_is here_is back_is part_is rest_is done own q low high = elim (cases_lt q d) [
  | inl before ↦ done q low before
  | inr last ↦ (
      let is : d ≡ q = omega (arith, high, last) in
      let part_at : part ≡ take S (drop (d * S) line) = part-at line part here d width S here_is w_is part_is in
      let rest_at : rest ≡ take S (drop ((d - a) * S) below) = part-at below rest back (d - a) width S back_is w_is rest_is in
      subst (λ (n : ℕ). KeepsBlock others few (take S (drop (n * S) line)) (take S (drop ((n - a) * S) below)) worth) is
      (subst (λ (l : List ℤ). KeepsBlock others few l (take S (drop ((d - a) * S) below)) worth) part_at
      (subst (λ (l : List ℤ). KeepsBlock others few part l worth) rest_at own)))
]

-- a block of one category keeps the rule if the run of its places does
run-keeps : (supply p : List ℕ) (from : ℕ) (line below : List ℤ) (worth : ℤ) → length p ≡ 1 → length p ≤ length supply → from ≡ place_of supply p
    → ((n : ℕ) → from ≤ n → n < states_of supply → (worth +ℤ nth below (n - from)) ≤ℤ nth line n) → KeepsBlock supply p line below worth
run-keeps supply [] from line below worth one few is run n low fits = absurd (omega (arith, one))
run-keeps [] (a ∷ p) from line below worth one few is run n low fits = absurd (omega (arith, few))
run-keeps (b ∷ supply) (a ∷ p) from line below worth one few is run n low fits =
    let both = and_parts (nat_le a (n / states_of supply)) (is_within p (left_at supply (n % states_of supply))) fits in
    let up : a * states_of supply ≤ n = (le-div_iff_mul-le (states-positive supply)).0 (leb-true a (n / states_of supply) both.0) in
    let none : place_of supply p ≡ 0 = place-none supply p (omega (arith, one)) in
    subst (λ (m : ℕ). (worth +ℤ nth below (n - m)) ≤ℤ nth line n) is (run n (omega (arith, is, none, up)) low)

-- and that run is the end of the line, over the beginning of the line below
pub end-keeps : (supply spans p : List ℕ) (first from : ℕ) (line below : List ℤ) (worth : ℤ) → IsBlock supply spans p first → length p ≡ 1 → from ≡ first
    → length line ≡ states_of supply
    → ((s : ℕ) → s < length (take (length line - from) (drop from line))
    → (worth +ℤ nth (take (length line - from) below) s) ≤ℤ nth (take (length line - from) (drop from line)) s) → KeepsBlock supply p line below worth
end-keeps supply spans p first from line below worth is one from_is places run =
    run-keeps supply p from line below worth one is.categories (from_is ∙ is.place)
    (λ n up low.
    let left = length line - from in
    let rest_long : length (drop from line) ≡ left = length-drop from line in
    let long : length (take left (drop from line)) ≡ left = length-take-le left (drop from line) (omega (arith, rest_long)) in
    let inside : n - from < left = omega (arith, up, low, places) in
    let own = run (n - from) (omega (arith, long, inside)) in
    let here : nth (take left (drop from line)) (n - from) ≡ nth line n = read-part line from left (n - from) inside ∙ ap (nth line) (omega (arith, up)) in
    let rest : nth (take left below) (n - from) ≡ nth below (n - from) = get_or-take left below (n - from) _ inside in
    omega (arith, ints, own, here, rest))

-- a part of a line without large numbers has none
pub part-small : (line : List ℤ) (from n : ℕ) → IsSmall line → IsSmall (take n (drop from line))
part-small line from n small = small-part line from n (2 ^ 60) small

-- lines that are the same keep the same
pub same-grow : (supply : List ℕ) (grow : Bool) (line below own rest : List ℤ) → own ≡ line → rest ≡ below → BothGrow supply grow line below
    → BothGrow supply grow own rest
same-grow supply grow line below own rest own_is rest_is both = rw (own_is, rest_is) both

pub same-keep : (supply p : List ℕ) (line below own rest : List ℤ) (worth : ℤ) → own ≡ line → rest ≡ below → KeepsBlock supply p own rest worth
    → KeepsBlock supply p line below worth
same-keep supply p line below own rest worth own_is rest_is keeps =
    subst (λ (l : List ℤ). KeepsBlock supply p line l worth) rest_is (subst (λ (l : List ℤ). KeepsBlock supply p l rest worth) own_is keeps)

-- what is seen of a package without its empty end holds of the package
pub lots-keep : (supply radices p counts : List ℕ) (line below : List ℤ) (seen worth : ℤ) → radices ≡ supply → counts ≡ take (length counts) p
    → IsNothingFrom (length counts) p → seen ≡ worth → KeepsBlock radices counts line below seen → KeepsBlock supply p line below worth
lots-keep supply radices p counts line below seen worth s_is c_is nothing same keeps i low fits =
    let n = length counts in
    let within : is_within (take n p) (left_at supply i) ≡ is_within p (left_at supply i) = trim-within n p (left_at supply i) nothing in
    let place : place_of supply (take n p) ≡ place_of supply p = trim-place n supply p nothing in
    let on : KeepsBlock supply (take n p) line below worth =
    subst (λ (z : ℤ). KeepsBlock supply (take n p) line below z) same
    (subst (λ (l : List ℕ). KeepsBlock supply l line below seen) c_is (subst (λ (l : List ℕ). KeepsBlock l counts line below seen) s_is keeps)) in
    subst (λ (m : ℕ). (worth +ℤ nth below (i - m)) ≤ℤ nth line i) place (on i low (within ∙ fits))
