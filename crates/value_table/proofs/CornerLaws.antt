-- Lines that never fall, and the blocks of them that a bid leaves as they are.
use Rattle.std.specs.Prelude.{◌≡◌, ℕ, suc, ◌+◌, ◌-◌, ◌*◌, ◌≤◌, ◌<◌, nat_le, IsTrue, List, [], ◌∷◌, length, get_or, drop, ℤ, pos, ◌+ℤ◌, ◌≤ℤ◌}
use Rattle.std.specs.Int.{int_max}
use Rattle.std.proofs.Common.{inl, inr, sym, ◌∙◌, ap, subst, arith}
use Rattle.std.proofs.lemmas.Bool.{false≢true, cases_Bool, cond-true, cond-false, and_parts, and_from, le-leb}
use Rattle.std.proofs.lemmas.Int.{ints}
use Rattle.std.proofs.lemmas.Nat.{div-mul-add, mod-mul-add, mul-add-lt}
use Rattle.auction_model.specs.Menu.{Menu}
use Rattle.auction_model.specs.Package.{is_within, less}
use Rattle.auction_model.specs.Place.{left_at, place_of, states_of}
use Rattle.auction_model.specs.Steps.{raised}
use Rattle.auction_model.specs.Table.{IsLine}
use Rattle.auction_model.proofs.DominatedLaws.{fits-more, less-within_self}
use Rattle.auction_model.proofs.LineLaws.{IsLineUpTo, int_max-left}
use Rattle.auction_model.proofs.PlaceLaws.{left_at-less, left_at-whole, left_at-within, length-left_at, place-below, place-less, place-less_below}
use Rattle.auction_model.proofs.PlaceLaws.{place_of-left_at, states-positive, within-within}
use Rattle.auction_model.proofs.TableLaws.{fits_up_to, from_parts, parts}
use Rattle.choices.proofs.MoreLots.{less-more}
use Rattle.value_table.specs.Growing.{BothGrow, Grows}

module _ (supply p : List ℕ) (s : ℕ) (low : s < states_of supply) where
  -- the place of a package that fits at s has no more than s
  low-within : IsTrue (is_within p (left_at supply s)) → IsTrue (is_within (left_at supply (place_of supply p)) (left_at supply s))
  low-within fits =
      let l = left_at supply s in
      let t = place_of supply (less l p) in
      let t_low : t < states_of supply = place-less_below supply p s low in
      let t_is : left_at supply t ≡ less l p = left_at-less supply p s low in
      let inside : IsTrue (is_within (left_at supply t) l) = subst (λ (k : List ℕ). IsTrue (is_within k l)) (sym t_is) (less-within_self l p) in
      let back : place_of supply (less l (left_at supply t)) + place_of supply (left_at supply t) ≡ s = place-less supply (left_at supply t) s low inside in
      let same : place_of supply (less l (left_at supply t)) ≡ place_of supply p =
      omega (arith, place-less supply p s low fits, back, place_of-left_at supply t t_low) in
      subst (λ (k : ℕ). IsTrue (is_within (left_at supply k) l)) same
      (subst (λ (k : List ℕ). IsTrue (is_within k l)) (sym (left_at-less supply (left_at supply t) s low)) (less-within_self l (left_at supply t)))

  -- the highest place that a package leaves has no less than is left at s
  high-within : IsTrue (is_within p supply) → IsTrue (is_within (left_at supply (place_of supply (less (left_at supply s) p)))
      (left_at supply (states_of supply - 1 - place_of supply p)))
  high-within fits =
      let H = states_of supply - 1 in
      let top : H < states_of supply = omega (arith, states-positive supply) in
      let whole : left_at supply H ≡ supply = left_at-whole supply in
      let at_top : IsTrue (is_within p (left_at supply H)) = subst (λ (k : List ℕ). IsTrue (is_within p k)) (sym whole) fits in
      let place : place_of supply (less (left_at supply H) p) ≡ H - place_of supply p = omega (arith, place-less supply p H top at_top) in
      let left : left_at supply (H - place_of supply p) ≡ less supply p = ap (left_at supply) (sym place) ∙ left_at-less supply p H top
      ∙ ap (λ (k : List ℕ). less k p) whole in
      let more : IsTrue (is_within (less (left_at supply s) p) (less supply p)) = less-more (left_at supply s) supply p (length-left_at supply s)
      (left_at-within supply s low) in
      subst (λ (k : List ℕ). IsTrue (is_within k (left_at supply (H - place_of supply p)))) (sym (left_at-less supply p s low))
      (subst (λ (k : List ℕ). IsTrue (is_within (less (left_at supply s) p) k)) (sym left) more)

-- a bid changes nothing in a block where its corners show it
pub corner-none : (supply p : List ℕ) (first : ℕ) (line below : List ℤ) (worth : ℤ) → IsTrue (is_within p supply) → first ≡ place_of supply p
    → BothGrow supply line below → (worth +ℤ get_or below (states_of supply - 1 - first) (pos 0)) ≤ℤ get_or line first (pos 0)
    → (s : ℕ) → s < states_of supply → get_or line s (pos 0) ≡ raised supply below p worth s (get_or line s (pos 0))
corner-none supply p first line below worth fits place grow test s low =
    let old = get_or line s (pos 0) in
    let from = place_of supply (less (left_at supply s) p) in
    let rest = get_or below from (pos 0) in
    let last = states_of supply - 1 - first in
    let first_low : first < states_of supply = omega (arith, place, place-below supply p fits) in
    let last_low : last < states_of supply = omega (arith, states-positive supply) in
    elim (cases_Bool (is_within p (left_at supply s))) [
      | inl here ↦
          let lowest : IsTrue (is_within (left_at supply first) (left_at supply s)) = rw place (low-within supply p s low here) in
          let highest : IsTrue (is_within (left_at supply from) (left_at supply last)) = rw place (high-within supply p s low fits) in
          let own : get_or line first (pos 0) ≤ℤ old = grow.line_grows first s first_low low lowest in
          let most : rest ≤ℤ get_or below last (pos 0) = grow.below_grows from last (place-less_below supply p s low) last_low highest in
          let enough : (worth +ℤ rest) ≤ℤ old = omega (arith, ints, own, most, test) in
          sym (cond-true (is_within p (left_at supply s)) (int_max old (worth +ℤ rest)) old here ∙ int_max-left old (worth +ℤ rest) enough)
      | inr misses ↦ sym (cond-false (is_within p (left_at supply s)) (int_max old (worth +ℤ rest)) old misses)
    ]

-- a block of a line that never falls never falls
grows-part : (supply : List ℕ) (line part : List ℤ) (q : ℕ) → 0 < length supply → q ≤ get_or supply 0 0
    → ((i : ℕ) → i < states_of (drop 1 supply) → get_or part i (pos 0) ≡ get_or line (q * states_of (drop 1 supply) + i) (pos 0))
    → Grows supply line → Grows (drop 1 supply) part
grows-part [] line part q some high reads grows = absurd (omega (arith, some))
grows-part (b ∷ supply) line part q some high reads grows = λ s t s_low t_low within.
    let W = states_of supply in
    let s_in : q * W + s < suc b * W = omega (arith, mul-add-lt q W s (suc b) (omega (arith, high)) s_low) in
    let t_in : q * W + t < suc b * W = omega (arith, mul-add-lt q W t (suc b) (omega (arith, high)) t_low) in
    let same : IsTrue (is_within (left_at (b ∷ supply) (q * W + s)) (left_at (b ∷ supply) (q * W + t))) =
    rw (div-mul-add q W s s_low, mod-mul-add q W s s_low, div-mul-add q W t t_low, mod-mul-add q W t t_low)
    (and_from (nat_le q q) (is_within (left_at supply s) (left_at supply t)) (le-leb q q (omega arith)) within) in
    rw (reads s s_low, reads t t_low) (grows (q * W + s) (q * W + t) s_in t_in same)

-- so do the parts of both lines in a block that a bid raises
pub parts-grow : (supply p : List ℕ) (q S : ℕ) (line below part rest : List ℤ) → 0 < length supply
    → S ≡ states_of (drop 1 supply) → q ≤ get_or supply 0 0
    → ((i : ℕ) → i < S → get_or part i (pos 0) ≡ get_or line (q * S + i) (pos 0))
    → ((i : ℕ) → i < S → get_or rest i (pos 0) ≡ get_or below ((q - get_or p 0 0) * S + i) (pos 0))
    → BothGrow supply line below → BothGrow (drop 1 supply) part rest
parts-grow supply p q S line below part rest any width high own other grow = record {
  line_grows = grows-part supply line part q any high (rw width at own) grow.line_grows;
  below_grows = grows-part supply below rest (q - get_or p 0 0) any (omega (arith, high)) (rw width at other) grow.below_grows;
}

-- the lots of the other categories are within the rest of the supply, and their place is what the first leaves
pub rest-fits : (supply p : List ℕ) → 0 < length p → length p ≤ length supply → IsTrue (is_within p supply) → IsTrue (is_within (drop 1 p) (drop 1 supply))
rest-fits supply [] some few fits = absurd (omega (arith, some))
rest-fits [] (a ∷ p) some few fits = absurd (omega (arith, few))
rest-fits (b ∷ supply) (a ∷ p) some few fits = (and_parts (nat_le a b) (is_within p supply) fits).1

pub rest-place : (supply p : List ℕ) → 0 < length p → length p ≤ length supply
    → place_of supply p - get_or p 0 0 * states_of (drop 1 supply) ≡ place_of (drop 1 supply) (drop 1 p)
rest-place supply [] some few = absurd (omega (arith, some))
rest-place [] (a ∷ p) some few = absurd (omega (arith, few))
rest-place (b ∷ supply) (a ∷ p) some few = omega arith

module _ (m : Menu) (counts : ℕ → ℕ → ℤ) (supply : List ℕ) (k : ℕ) where
  -- an exact line never falls
  pub line-grows : (line : List ℤ) → IsLine m counts supply k line → Grows supply line
  line-grows line e s t s_low t_low within =
      let own = (e.exact s s_low).reached in
      let most = (e.exact t t_low).bound own.0 (fits-more m k (left_at supply s) (left_at supply t) own.0 within own.1) in
      subst (λ (z : ℤ). z ≤ℤ get_or line t (pos 0)) own.2 most

  more : (i : ℕ) (left larger c : List ℕ) → length left ≡ length larger → IsTrue (is_within left larger) → IsTrue (fits_up_to m k left i c)
      → IsTrue (fits_up_to m k larger i c)
  more i left larger [] same within h = absurd (false≢true h)
  more i left larger (g ∷ c) same within h =
      let p = parts m k left i g c h in
      let lots = m.lots (suc k) g in
      from_parts m k larger i g c (record {
        low = p.low;
        own = within-within lots left larger p.own within;
        rest = fits-more m (suc k) (less left lots) (less larger lots) c (less-more left larger lots same within) p.rest;
      })

  -- a line that counts the first bids of a bidder never falls
  pub part-grows : (i : ℕ) (line : List ℤ) → IsLineUpTo m counts supply k i line → Grows supply line
  part-grows i line e s t s_low t_low within =
      let own = (e.exact s s_low).reached in
      let same : length (left_at supply s) ≡ length (left_at supply t) = length-left_at supply s ∙ sym (length-left_at supply t) in
      let most = (e.exact t t_low).bound own.0 (more i (left_at supply s) (left_at supply t) own.0 same within own.1) in
      subst (λ (z : ℤ). z ≤ℤ get_or line t (pos 0)) own.2 most
