-- Digits that are compared at once.
use Rattle.std.proofs.Common.{Bool, Fits, List, ap, arith, cond, drop, false, get_or, inl, inr, length, ltb, map, refl, replicate, subst, sym, take}
use Rattle.std.proofs.Common.{true, w8, ℕ, ◌%◌, ◌+◌, ◌-◌, ◌<◌, ◌^◌, ◌∙◌, ◌≡◌, ◌≤◌}
use Rattle.std.proofs.lemmas.Bool.{cases_lt, false≢true}
use Rattle.std.proofs.lemmas.Bool.Decides.{nat_tests}
use Rattle.std.proofs.lemmas.Nat.Bits.{bit_at-trailing_ones, bit_at_above}
use Rattle.std.proofs.lemmas.Simd.{bitmask_splat, bit_mask_l, get_or-chunk, length-chunk, mask_l-lt, zip2_splat, map-map}
use Rattle.std.proofs.lemmas.List.{get_or-map, get_or_past, length-map}
use Rattle.std.specs.Int.{bit_at, trailing_ones, w64}
use lib.Lanes.{zip2, mask_l, top}
use Rattle.wide_num.proofs.Decimal.{IsDigit}

-- whether a byte less the first digit is below 10, if a byte below it comes out above
abbrev pub is_spelled : ℕ → Bool
is_spelled byte = ltb ((byte + 208) % 256) 10

pub digits_mask : (v : List ℕ) → length v ≡ 8
    → mask_l (map (top 7) (zip2 (λ a b. cond (ltb a b) 255 0) (zip2 (λ a b. (a + (256 - b)) % 256) v (replicate 8 48)) (replicate 8 10))) % 2 ^ 64
    ≡ mask_l (map is_spelled v)
digits_mask v long =
    let values : zip2 (λ a b. (a + (256 - b)) % 256) v (replicate 8 48) ≡ map (λ x. (x + 208) % 256) v =
    zip2_splat (λ a b. (a + (256 - b)) % 256) v 8 48 long in
    ap (λ xs. mask_l (map (top 7) (zip2 (λ a b. cond (ltb a b) 255 0) xs (replicate 8 10))) % 2 ^ 64) values
    ∙ bitmask_splat w8 ltb (map (λ x. (x + 208) % 256) v) 8 10 (length-map v (λ x. (x + 208) % 256) ∙ long) (omega arith)
    ∙ ap mask_l (map-map (λ x. ltb x 10) (λ x. (x + 208) % 256) v)

-- a byte that is spelled so is a digit
digit_of : (byte : ℕ) → byte < 256 → is_spelled byte ≡ true → IsDigit byte
digit_of byte small is = grind (arith, nat_tests, small, is)

-- the mask of eight bytes has eight bits
pub mask_small : (v : List ℕ) → length v ≡ 8 → mask_l (map is_spelled v) < 2 ^ 8
mask_small v long = subst (λ (n : ℕ). mask_l (map is_spelled v) < 2 ^ n) (length-map v is_spelled ∙ long) (mask_l-lt (map is_spelled v))

-- if a bit of it is set, its byte is a digit
pub digit_set : (piece : List ℕ) (at i : ℕ) → at + 8 ≤ length piece → ((i : ℕ) → Fits w8 (get_or piece i 0))
    → bit_at (mask_l (map is_spelled (take 8 (drop at piece)))) i ≡ 1 → IsDigit (get_or piece (at + i) 0)
digit_set piece at i room fits one =
    let eight = take 8 (drop at piece) in
    let long : length eight ≡ 8 = length-chunk at 8 piece room in
    let set : get_or (map is_spelled eight) i false ≡ true = yes (get_or (map is_spelled eight) i false) (sym (bit_mask_l (map is_spelled eight) i) ∙ one) in
    elim (cases_lt i 8) [
      | inl inside ↦ (
          let spelled : is_spelled (get_or eight i 0) ≡ true = sym (get_or-map is_spelled eight i 0 false (omega (arith, long, inside))) ∙ set in
          let byte : get_or eight i 0 ≡ get_or piece (at + i) 0 = get_or-chunk at 8 piece i 0 inside in
          digit_of (get_or piece (at + i) 0) (fits (at + i)).fits (ap is_spelled (sym byte) ∙ spelled))
      | inr past ↦ absurd (false≢true (sym (get_or_past (map is_spelled eight) i false (omega (arith, length-map eight is_spelled, long, past))) ∙ set))
    ]
  where
    yes : (b : Bool) → ◌≡◌ {A = ℕ} (cond b 1 0) 1 → b ≡ true
    yes true is = refl
    yes false is = absurd (omega (arith, is))

-- how many lowest bits of eight are set
pub ones_few : (n k : ℕ) → n < 2 ^ 8 → k ≡ trailing_ones w64 n → (k ≤ 8) × ((i : ℕ) → i < k → bit_at n i ≡ 1)
ones_few n k small is =
    let ones = bit_at-trailing_ones w64 n (omega (arith, small)) in
    let few : trailing_ones w64 n ≤ 8 = elim (cases_lt 8 (trailing_ones w64 n)) [
      | inl over ↦ absurd (omega (arith, ones.2 8 over, bit_at_above n 8 8 small (omega arith)))
      | inr le ↦ le
    ] in
    (omega (arith, is, few), λ i lt. ones.2 i (omega (arith, lt, is)))
