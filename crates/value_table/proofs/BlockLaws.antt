-- A bid is counted block by block: the blocks, what each block asks, and what is done once it is counted there.
use Rattle.std.specs.Prelude.{◌≡◌, ℕ, ◌+◌, ◌-◌, ◌*◌, ◌≤◌, ◌<◌, List, [], ◌∷◌, length, map, get_or, take, drop, ℤ, pos, ◌+ℤ◌, ◌≤ℤ◌, IsTrue, refl}
use Rattle.std.proofs.Common.{sym, ◌∙◌, ap, subst, arith}
use Rattle.std.proofs.Math.Nat.{mul-le-mul_right}
use Rattle.std.proofs.lemmas.List.{length-drop, length-map, length-take, take_rest}
use Rattle.auction_model.specs.Package.{IsNothingFrom, is_within}
use Rattle.auction_model.specs.Place.{place_of, states_of, widths_of}
use Rattle.auction_model.specs.Steps.{raised}
use Rattle.auction_model.proofs.PlaceLaws.{place-below}
use Rattle.auction_model.proofs.RunLaws.{block-done, block-rest, raised-before, states-first}
use Rattle.auction_model.proofs.TrimLaws.{trim-place, trim-within}
use Rattle.value_table.specs.Block.{IsBlock}
use Rattle.value_table.specs.Growing.{BothGrow}
use Rattle.value_table.specs.Raising.{CanRaise}
use Rattle.value_table.proofs.CornerLaws.{corner-none, parts-grow, rest-fits, rest-place}
use Rattle.value_table.proofs.NumberParts.{read-put, read-number, small-numbers}
use Rattle.value_table.proofs.RowParts.{first-width, left-few, left-widths, row-inside, row-length}
use borrow.Rule.Slice.PartMut.{put_mid, mid_len}

-- a line in which a bid is counted in all places before `end`
pub record IsRaisedTo {A : Type 0} (number : A → ℤ) (supply lots : List ℕ) (below : List ℤ) (worth : ℤ) (initial line : List A) (end : ℕ) : Type 0 where
  pub done : (s : ℕ) → s < end → get_or (map number line) s (pos 0) ≡ raised supply below lots worth s (get_or (map number initial) s (pos 0))
  pub rest : (s : ℕ) → end ≤ s → get_or (map number line) s (pos 0) ≡ get_or (map number initial) s (pos 0)

-- all places of a supply, for a package in it without its last categories, of which it has nothing
pub whole-block : (supply lots radices spans counts : List ℕ) (first used : ℕ) → radices ≡ supply → spans ≡ widths_of supply → counts ≡ lots
    → states_of supply ≤ 16384 → length lots ≡ length supply → IsTrue (is_within lots supply) → first ≡ place_of supply lots
    → 0 < used → used ≤ length counts → IsNothingFrom used counts → IsBlock radices spans (take used counts) first
whole-block supply lots radices spans counts first used same widths all states categories fits place some most rest = record {
  widths = widths ∙ ap widths_of (sym same);
  some = omega (arith, some, most, length-take used counts);
  categories = omega (arith, categories, length-take used counts, ap (λ (l : List ℕ). length l) all, ap (λ (l : List ℕ). length l) same);
  states = rw same states;
  fits = trim-within used counts radices rest ∙ rw (all, same) fits;
  place = rw (all, same) place ∙ sym (trim-place used radices counts rest);
}

-- the block of the other categories, if the lots are of more than one
pub rest-block : (supply widths lots : List ℕ) (first : ℕ) → 1 < length lots → IsBlock supply widths lots first
    → IsBlock (take (length supply - 1) (drop 1 supply)) (take (length widths - 1) (drop 1 widths)) (take (length lots - 1) (drop 1 lots))
    (first - get_or lots 0 0 * get_or widths 0 0)
rest-block supply widths lots first more is =
    let any : 0 < length supply = omega (arith, is.some, is.categories) in
    rw (take_rest supply 1, take_rest widths 1, take_rest lots 1) (record {
      widths = left-widths supply widths is.widths;
      some = omega (arith, more, length-drop 1 lots);
      categories = omega (arith, is.categories, length-drop 1 supply, length-drop 1 lots);
      states = omega (arith, left-few supply any, is.states);
      fits = rest-fits supply lots is.some is.categories is.fits;
      place = rw (is.place, first-width supply widths is.widths any) (rest-place supply lots is.some is.categories);
    })

-- with lots of one category their place is their count times the places of the others
pub one-place : (supply lots : List ℕ) → length lots ≡ 1 → length lots ≤ length supply → place_of supply lots ≡ get_or lots 0 0 * states_of (drop 1 supply)
one-place supply [] one few = absurd (omega (arith, one))
one-place [] (a ∷ lots) one few = absurd (omega (arith, few))
one-place (b ∷ []) (a ∷ []) one few = omega arith
one-place (b ∷ c ∷ supply) (a ∷ []) one few = omega arith
one-place (b ∷ supply) (a ∷ d ∷ lots) one few = absurd (omega (arith, one))

-- the rows of the first category are within the block
pub row-within : (supply widths lots : List ℕ) (first : ℕ) → IsBlock supply widths lots first → (q : ℕ) → q < get_or supply 0 0 + 1
    → q * get_or widths 0 0 + get_or widths 0 0 ≤ states_of supply
row-within supply widths lots first is q low = row-inside supply widths q is.widths (omega (arith, is.some, is.categories)) low

module _ {A : Type 0} (number : A → ℤ) (most : ℕ) (supply widths lots : List ℕ) (first : ℕ) (is : IsBlock supply widths lots first)
    (initial below : List A) (worth : A) (can : CanRaise number most (states_of supply) initial below worth) where
  any : 0 < length supply
  any = omega (arith, is.some, is.categories)

  -- what is asked of the lines is asked in each block of the first category, with as many fewer lots of it in the line below
  pub block-asks : (q : ℕ) (line : List A) → q < get_or supply 0 0 + 1 → length line ≡ length initial
      → CanRaise number most (states_of (drop 1 supply))
      (take (q * get_or widths 0 0 + get_or widths 0 0 - q * get_or widths 0 0) (drop (q * get_or widths 0 0) line))
      (take ((q - get_or lots 0 0) * get_or widths 0 0 + get_or widths 0 0 - (q - get_or lots 0 0) * get_or widths 0 0)
      (drop ((q - get_or lots 0 0) * get_or widths 0 0) below)) worth
  block-asks q line low same =
      let from = (q - get_or lots 0 0) * get_or widths 0 0 in
      record {
        line = row-length supply widths q line is.widths any (same ∙ can.line) low;
        places = row-length supply widths (q - get_or lots 0 0) below is.widths any can.places (omega (arith, low));
        worth = can.worth;
        sizes = small-numbers number below from (from + get_or widths 0 0 - from) most can.sizes;
      }

  -- neither line falls in such a block, if the line has there what it had at first
  pub block-grows : (q : ℕ) (line : List A) → get_or lots 0 0 ≤ q → q < get_or supply 0 0 + 1
      → ((s : ℕ) → q * get_or widths 0 0 ≤ s → get_or (map number line) s (pos 0) ≡ get_or (map number initial) s (pos 0))
      → BothGrow supply (map number initial) (map number below)
      → BothGrow (drop 1 supply)
      (map number (take (q * get_or widths 0 0 + get_or widths 0 0 - q * get_or widths 0 0) (drop (q * get_or widths 0 0) line)))
      (map number (take ((q - get_or lots 0 0) * get_or widths 0 0 + get_or widths 0 0 - (q - get_or lots 0 0) * get_or widths 0 0)
      (drop ((q - get_or lots 0 0) * get_or widths 0 0) below)))
  block-grows q line high low rest grow =
      let S = get_or widths 0 0 in
      let from = (q - get_or lots 0 0) * S in
      parts-grow supply lots q S (map number initial) (map number below) _ _ any (first-width supply widths is.widths any)
      (omega (arith, low))
      (λ i h. read-number number line (q * S) (q * S + S - q * S) i (omega arith) ∙ rest (q * S + i) (omega arith))
      (λ i h. read-number number below from (from + S - from) i (omega arith))
      grow

  -- the place of the lots is within the line
  pub first-inside : first < length initial
  first-inside = omega (arith, is.place, can.line, place-below supply lots is.fits)

  -- if the corners show it the bid changes nothing
  pub reached-none : BothGrow supply (map number initial) (map number below)
      → (number worth +ℤ get_or (map number below) (length initial - 1 - first) (pos 0)) ≤ℤ get_or (map number initial) first (pos 0)
      → (s : ℕ) → s < length initial
      → get_or (map number initial) s (pos 0) ≡ raised supply (map number below) lots (number worth) s (get_or (map number initial) s (pos 0))
  reached-none grow reached s h =
      let test = subst (λ (n : ℕ). (number worth +ℤ get_or (map number below) (n - 1 - first) (pos 0)) ≤ℤ get_or (map number initial) first (pos 0))
      can.line reached in
      corner-none supply lots first (map number initial) (map number below) (number worth) is.fits is.place grow test s (omega (arith, h, can.line))

  -- before the first block with that many lots the bid changes nothing
  pub raised-first : IsRaisedTo number supply lots (map number below) (number worth) initial initial (get_or lots 0 0 * get_or widths 0 0)
  raised-first = record {
    done = λ s h. sym (raised-before supply lots (map number below) (number worth) s (get_or (map number initial) s (pos 0)) is.some is.categories
        (rw (first-width supply widths is.widths any) at h));
    rest = λ s h. refl;
  }

  -- with one more block counted all before its end are
  pub raised-more : (q : ℕ) (line made : List A) → get_or lots 0 0 ≤ q → q < get_or supply 0 0 + 1 → length line ≡ length initial
      → length made ≡ length (take (q * get_or widths 0 0 + get_or widths 0 0 - q * get_or widths 0 0) (drop (q * get_or widths 0 0) line))
      → ((i : ℕ) → i < length (take (q * get_or widths 0 0 + get_or widths 0 0 - q * get_or widths 0 0) (drop (q * get_or widths 0 0) line))
      → get_or (map number made) i (pos 0) ≡ raised (drop 1 supply)
      (map number (take ((q - get_or lots 0 0) * get_or widths 0 0 + get_or widths 0 0 - (q - get_or lots 0 0) * get_or widths 0 0)
      (drop ((q - get_or lots 0 0) * get_or widths 0 0) below)))
      (drop 1 lots) (number worth) i
      (get_or (map number (take (q * get_or widths 0 0 + get_or widths 0 0 - q * get_or widths 0 0) (drop (q * get_or widths 0 0) line))) i (pos 0)))
      → IsRaisedTo number supply lots (map number below) (number worth) initial line (q * get_or widths 0 0)
      → IsRaisedTo number supply lots (map number below) (number worth) initial
      (put_mid (q * get_or widths 0 0) (q * get_or widths 0 0 + get_or widths 0 0 - q * get_or widths 0 0) line made) ((q + 1) * get_or widths 0 0)
  raised-more q line made high low same same_made reads was =
      let S = get_or widths 0 0 in
      let k = q * S + S - q * S in
      let from = (q - get_or lots 0 0) * S in
      let part = map number (take (from + S - from) (drop from below)) in
      let width : S ≡ states_of (drop 1 supply) = first-width supply widths is.widths any in
      let k_is : k ≡ S = omega arith in
      let inside : q * S + S ≤ length line = omega (arith, row-inside supply widths q is.widths any low, can.line, same) in
      let mid : length (take k (drop (q * S) line)) ≡ k = mid_len (q * S) (q * S + S) line inside in
      let count : length (map number made) ≡ k = length-map made number ∙ same_made ∙ mid in
      let start : q * S ≤ length (map number line) = omega (arith, inside, length-map line number) in
      let call : (i : ℕ) → i < S → get_or (map number made) i (pos 0) ≡ raised (drop 1 supply) part (drop 1 lots) (number worth) i
      (get_or (map number line) (q * S + i) (pos 0)) =
      λ i h.
      let own : i < length (take k (drop (q * S) line)) = omega (arith, mid) in
      reads i own
      ∙ ap (raised (drop 1 supply) part (drop 1 lots) (number worth) i) (read-number number line (q * S) k i (omega arith)) in
      record {
        done = λ s h. read-put number (q * S) k line made s
            ∙ block-done supply lots (map number below) (map number initial) (map number line) (map number made) (number worth) is.some is.categories q S
            width was.rest k k_is start count part high
            (λ i h. read-number number below from (from + S - from) i (omega arith)) call was.done s h;
        rest = λ s h. read-put number (q * S) k line made s
            ∙ block-rest supply lots (map number below) (map number initial) (map number line) (map number made) (number worth) is.some is.categories q S
            width was.rest k k_is start count s h;
      }

  -- after the last block the bid is counted
  pub raised-whole : (q : ℕ) (line : List A) → get_or supply 0 0 + 1 ≤ q
      → IsRaisedTo number supply lots (map number below) (number worth) initial line (q * get_or widths 0 0)
      → (s : ℕ) → s < length initial
      → get_or (map number line) s (pos 0) ≡ raised supply (map number below) lots (number worth) s (get_or (map number initial) s (pos 0))
  raised-whole q line past was s h =
      let S = get_or widths 0 0 in
      let whole : states_of supply ≡ (get_or supply 0 0 + 1) * S = states-first supply any
      ∙ ap (λ (n : ℕ). (get_or supply 0 0 + 1) * n) (sym (first-width supply widths is.widths any)) in
      was.done s (omega (arith, whole, can.line, h, mul-le-mul_right S past))
