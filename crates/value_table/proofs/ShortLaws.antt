-- Lines of numbers of 32 bits.
use Rattle.std.proofs.Common.{IsTrue, List, [], ap, arith, get_or, inl, inr, length, map, max, pos, refl, replicate, subst, suc, sym, unsigned_abs}
use Rattle.std.proofs.Common.{zero, ℕ, ℤ, ◌*◌, ◌+ℤ◌, ◌+◌, ◌-◌, ◌<◌, ◌^◌, ◌∙◌, ◌∷◌, ◌≡◌, ◌≤ℤ◌, ◌≤◌}
use Rattle.std.specs.Int.{int_max}
use Rattle.std.proofs.lemmas.Bool.{cases_lt}
use Rattle.std.proofs.lemmas.Int.{ints, int_max_is}
use Rattle.std.proofs.lemmas.List.{length-map, get_or_past}
use Rattle.choices.specs.Coarse.{IsCeiling, IsFloor}
use Rattle.auction_model.specs.Menu.{Menu}
use Rattle.auction_model.specs.Package.{is_within}
use Rattle.auction_model.specs.Place.{left_at, states_of}
use Rattle.auction_model.specs.Table.{IsLine}
use Rattle.auction_model.proofs.PlaceLaws.{left_at-whole, left_at-within, states-positive}
use Rattle.value_table.proofs.CornerLaws.{line-grows}
use Rattle.value_table.proofs.Plain.{size-from}
use Rattle.value_table.proofs.Sizes.{line-sign}
use Rattle.value_table.specs.Counted.{counted_bids, counted, IsCountedLine, IsLineWithin}
use Rattle.value_table.specs.declared.lowered_bids.LoweredBids.{LoweredBids}

-- what is read of such a line
pub read-short : (xs : List ℕ) (s : ℕ) → get_or (map (λ n. pos n) xs) s (pos 0) ≡ pos (get_or xs s 0)
read-short [] s = refl
read-short (x ∷ xs) zero = refl
read-short (x ∷ xs) (suc s) = read-short xs s

-- a line of zeros
pub zeros-short : (n s : ℕ) → get_or (map (λ n. pos n) (replicate n 0)) s (pos 0) ≡ pos 0
zeros-short zero s = refl
zeros-short (suc n) zero = refl
zeros-short (suc n) (suc s) = zeros-short n s

-- how large it is
pub small-short : (xs : List ℕ) (s most : ℕ) → unsigned_abs (get_or (map (λ n. pos n) xs) s (pos 0)) ≤ most → get_or xs s 0 ≤ most
small-short xs s most h = subst (λ (z : ℤ). unsigned_abs z ≤ most) (read-short xs s) h

-- the sum with an amount
pub sum-short : (xs : List ℕ) (s a : ℕ) → pos (get_or xs s 0 + a) ≡ get_or (map (λ n. pos n) xs) s (pos 0) +ℤ pos a
sum-short xs s a = ap (λ (z : ℤ). z +ℤ pos a) (sym (read-short xs s))

-- the larger of two such numbers as a whole number
max-is : (a b : ℕ) → pos (max a b) ≡ int_max (pos a) (pos b)
max-is a b = omega (arith, ints, int_max_is (pos a) (pos b))

-- the larger of a number and a sum with another line's number
pub max-short : (xs ys : List ℕ) (s a : ℕ) → pos (max (get_or xs s 0) (a + get_or ys s 0))
    ≡ int_max (get_or (map (λ n. pos n) xs) s (pos 0)) (pos a +ℤ get_or (map (λ n. pos n) ys) s (pos 0))
max-short xs ys s a =
    max-is (get_or xs s 0) (a + get_or ys s 0)
    ∙ ap (λ (z : ℤ). int_max z (pos a +ℤ pos (get_or ys s 0))) (sym (read-short xs s))
    ∙ ap (λ (z : ℤ). int_max (get_or (map (λ n. pos n) xs) s (pos 0)) (pos a +ℤ z)) (sym (read-short ys s))

-- such a line rounded down
pub floor-short : (unit : ℕ) (xs low : List ℕ) → ((s : ℕ) → s < length xs → get_or low s 0 * unit ≤ get_or xs s 0) → IsFloor unit (map (λ n. pos n) xs) low
floor-short unit xs low is s h some = rw (read-short xs s) (omega (arith, ints, is s (omega (arith, h, length-map xs (λ n. pos n)))))

-- if there are no units it is rounded down too
pub floor-none : (unit : ℕ) (xs low : List ℕ) → ((s : ℕ) → s < length xs → get_or low s 0 ≡ 0) → IsFloor unit (map (λ n. pos n) xs) low
floor-none unit xs low is s h some = absurd (omega (arith, some, is s (omega (arith, h, length-map xs (λ n. pos n)))))

-- and rounded up
pub ceiling-short : (unit : ℕ) (xs high : List ℕ) → ((s : ℕ) → s < length xs → get_or xs s 0 ≤ get_or high s 0 * unit)
    → ((s : ℕ) → s < length xs → get_or high s 0 ≤ 2 ^ 15) → IsCeiling unit (map (λ n. pos n) xs) high
ceiling-short unit xs high above short = record {
  above = λ s h. rw (read-short xs s) (omega (arith, ints, above s (omega (arith, h, length-map xs (λ n. pos n)))));
  short = λ s h. short s (omega (arith, h, length-map xs (λ n. pos n)));
}

-- the last place of a line has the largest number
pub line-top : (m : Menu) (counts : ℕ → ℕ → ℤ) (supply : List ℕ) (k : ℕ) (line : List ℤ) → IsLine m counts supply k line → (s : ℕ) → s < states_of supply
    → get_or line s (pos 0) ≤ℤ get_or line (states_of supply - 1) (pos 0)
line-top m counts supply k line e s low =
    let top = states_of supply - 1 in
    let last : top < states_of supply = omega (arith, states-positive supply) in
    let within : IsTrue (is_within (left_at supply s) (left_at supply top)) =
    subst (λ (left : List ℕ). IsTrue (is_within (left_at supply s) left)) (sym (left_at-whole supply)) (left_at-within supply s low) in
    line-grows m counts supply k line e s top low last within

-- a line whose last number is small, below a bidder that counts no more, has room for its sums
pub short-within : (l : LoweredBids) (j most : ℕ) (line : List ℤ) → j ≤ length l.book.now.bidders → IsCountedLine l j line
    → get_or line (length line - 1) (pos 0) ≤ℤ pos most → ((i : ℕ) → i ≤ (counted_bids l).bids j → unsigned_abs (counted l j i) ≤ most)
    → IsLineWithin l most j line
short-within l j most line inside e top worths =
    let supply = l.book.now.supply in
    let last : get_or line (states_of supply - 1) (pos 0) ≤ℤ pos most = rw e.places at top in
    record {
      numbers = λ s. elim (cases_lt s (length line)) [
        | inl low ↦
            let most_at = line-top (counted_bids l) (counted l) supply j line e s (omega (arith, e.places, low)) in
            size-from (get_or line s (pos 0)) most (line-sign l j line inside e s) (omega (arith, ints, last, most_at))
        | inr past ↦ let none : get_or line s (pos 0) ≡ pos 0 = get_or_past line s (pos 0) past in rw none (omega arith)
      ];
      worths = worths;
    }

module _ (f : ℕ → ℕ) (most : ℕ) where
  -- the first number is small
  pub small-first : f 0 ≤ most → (n : ℕ) → n ≤ 0 → f n ≤ most
  small-first own zero low = own
  small-first own (suc n) low = absurd (omega arith)

  -- and each that comes after small ones
  pub small-more : (i : ℕ) → ((n : ℕ) → n ≤ i → f n ≤ most) → f (i + 1) ≤ most → (n : ℕ) → n ≤ i + 1 → f n ≤ most
  small-more i was own n low = elim (cases_lt i n) [
    | inl above ↦ let last : n ≡ i + 1 = omega (arith, above, low) in rw last own
    | inr before ↦ was n before
  ]
