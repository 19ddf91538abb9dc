-- Eight digits in one word.
use Rattle.std.proofs.Common.{List, [], ap, arith, bit_and, drop, get_or, length, length-append, mul_assoc, refl, replicate, subst, suc, sym, take}
use Rattle.std.proofs.Common.{take-append-drop, zero, ℕ, ◌%◌, ◌*◌, ◌++◌, ◌+◌, ◌-◌, ◌/◌, ◌<◌, ◌^◌, ◌∙◌, ◌∷◌, ◌≡◌, ◌≢◌, ◌≤◌}
use Rattle.std.proofs.lemmas.List.{get_or-drop, get_or-take, length-drop, length-take-le, take-take}
use Rattle.std.proofs.lemmas.Simd.{length-replicate}
use Rattle.std.proofs.lemmas.Nat.{and_block, and_mask, pow-add}
use lib.Lanes.{zip2, number_l, digits_l}
use Rattle.line_format.specs.Numeral.{numeral}
use Rattle.line_format.proofs.Numerals.{numeral-on, numeral-one}
use Rattle.wide_num.proofs.Decimal.{AreDigits, IsDigit, read_on, read_on-append}
use Rattle.cert_stream.specs.Pieces.{between}
use Rattle.cert_stream.specs.Words.{AreDigitsFrom, AreEight, AreFours, ArePairs, word_of}

-- the one lane of eight bytes less that of 0
pub word_lane : (v : List ℕ) → length v ≡ 8
    → get_or (digits_l (2 ^ 64) 1 (number_l 256 (zip2 (λ a b. (a + (256 - b)) % 256) v (replicate 8 48)))) 0 0 ≡ word_of v
word_lane (a ∷ b ∷ c ∷ d ∷ e ∷ f ∷ g ∷ h ∷ []) long = omega arith
word_lane v long = absurd (omega (arith, long))

-- a mask of every second byte
last_byte : (hi m lo : ℕ) → lo < 2 ^ 16 → bit_and (hi * 2 ^ 16 + lo) (m * 2 ^ 16 + 255) ≡ bit_and hi m * 2 ^ 16 + lo % 2 ^ 8
last_byte hi m lo lt = and_block 16 hi m lo 255 lt (omega arith) ∙ ap (λ (n : ℕ). bit_and hi m * 2 ^ 16 + n) (and_mask lo 8)

second_bytes : (x y z w : ℕ) → y < 2 ^ 16 → z < 2 ^ 16 → w < 2 ^ 16
    → bit_and (((x * 2 ^ 16 + y) * 2 ^ 16 + z) * 2 ^ 16 + w) 71777214294589695
    ≡ ((x % 2 ^ 8 * 2 ^ 16 + y % 2 ^ 8) * 2 ^ 16 + z % 2 ^ 8) * 2 ^ 16 + w % 2 ^ 8
second_bytes x y z w ly lz lw =
    last_byte ((x * 2 ^ 16 + y) * 2 ^ 16 + z) 1095233372415 w lw
    ∙ ap (λ (n : ℕ). n * 2 ^ 16 + w % 2 ^ 8) (last_byte (x * 2 ^ 16 + y) 16711935 z lz
    ∙ ap (λ (n : ℕ). n * 2 ^ 16 + z % 2 ^ 8) (last_byte x 255 y ly
    ∙ ap (λ (n : ℕ). n * 2 ^ 16 + y % 2 ^ 8) (and_mask x 8)))

-- what each two of eight digits spell
pub pairs_of : (word tens sum a b c d e f g h : ℕ) → AreEight word a b c d e f g h → tens ≡ word * 10 % 2 ^ 64 → sum ≡ (tens + word / 2 ^ 8) % 2 ^ 64
    → ArePairs (bit_and sum 71777214294589695) (10 * a + b) (10 * c + d) (10 * e + f) (10 * g + h)
pairs_of word tens sum a b c d e f g h are tens_is sum_is =
    let w = 10 * a + b + 256 * (10 * b + c) in
    let z = 10 * c + d + 256 * (10 * d + e) in
    let y = 10 * e + f + 256 * (10 * f + g) in
    let x = 10 * g + h + 256 * (10 * h) in
    let whole : tens ≡ word * 10 = omega (arith, are.is, are.first, are.last, tens_is) in
    let rest : word / 2 ^ 8 ≡ b + 256 * (c + 256 * (d + 256 * (e + 256 * (f + 256 * (g + 256 * h))))) = omega (arith, are.is, are.first) in
    let is : sum ≡ ((x * 2 ^ 16 + y) * 2 ^ 16 + z) * 2 ^ 16 + w = omega (arith, are.is, are.first, are.last, whole, rest, sum_is) in
    let mask = second_bytes x y z w (omega (arith, are.last)) (omega (arith, are.first, are.last)) (omega (arith, are.first)) in
    record {
      low = (omega (arith, are.first), omega (arith, are.first), omega (arith, are.last), omega (arith, are.last));
      is = ap (λ (n : ℕ). bit_and n 71777214294589695) is ∙ mask ∙ omega (arith, are.first, are.last);
    }

-- a mask of every second two bytes
second_pairs : (x y : ℕ) → y < 2 ^ 32 → bit_and (x * 2 ^ 32 + y) 281470681808895 ≡ x % 2 ^ 16 * 2 ^ 32 + y % 2 ^ 16
second_pairs x y ly = and_block 32 x 65535 y 65535 ly (omega arith) ∙ ap (λ (n : ℕ). bit_and x 65535 * 2 ^ 32 + n) (and_mask y 16)
    ∙ ap (λ (n : ℕ). n * 2 ^ 32 + y % 2 ^ 16) (and_mask x 16)

-- what each two of four numbers of two digits spell
pub fours_of : (word hundreds sum a b c d : ℕ) → ArePairs word a b c d → hundreds ≡ word * 100 % 2 ^ 64 → sum ≡ (hundreds + word / 2 ^ 16) % 2 ^ 64
    → AreFours (bit_and sum 281470681808895) (100 * a + b) (100 * c + d)
fours_of word hundreds sum a b c d are hundreds_is sum_is =
    let y = 100 * a + b + 65536 * (100 * b + c) in
    let x = 100 * c + d + 65536 * (100 * d) in
    let whole : hundreds ≡ word * 100 = omega (arith, are.is, are.low, hundreds_is) in
    let rest : word / 2 ^ 16 ≡ b + 65536 * (c + 65536 * d) = omega (arith, are.is, are.low) in
    let is : sum ≡ x * 2 ^ 32 + y = omega (arith, are.is, are.low, whole, rest, sum_is) in
    record {
      low = (omega (arith, are.low), omega (arith, are.low));
      is = ap (λ (n : ℕ). bit_and n 281470681808895) is ∙ second_pairs x y (omega (arith, are.low)) ∙ omega (arith, are.low);
    }

-- what two numbers of four digits spell
pub both_of : (word a b : ℕ) → AreFours word a b → 10000 * bit_and word 4294967295 + word / 2 ^ 32 ≡ 10000 * a + b
both_of word a b are =
    let last : word % 2 ^ 32 ≡ a = omega (arith, are.is, are.low) in
    let rest : word / 2 ^ 32 ≡ b = omega (arith, are.is, are.low) in
    omega (arith, and_mask word 32, last, rest)

-- a word of eight digits, and the number that they spell
pub record IsAligned (word number : ℕ) : Type 0 where
  pub a : ℕ
  pub b : ℕ
  pub c : ℕ
  pub d : ℕ
  pub e : ℕ
  pub f : ℕ
  pub g : ℕ
  pub h : ℕ
  pub digits : AreEight word a b c d e f g h
  pub value : 10000 * (100 * (10 * a + b) + (10 * c + d)) + (100 * (10 * e + f) + (10 * g + h)) ≡ number

-- a word of eight digits
eight_of : (ds : List ℕ) → length ds ≡ 8 → AreDigits ds → IsAligned (word_of ds) (read_on 0 ds)
eight_of (a ∷ b ∷ c ∷ d ∷ e ∷ f ∷ g ∷ h ∷ []) long digits = record {
  a = a - 48;
  b = b - 48;
  c = c - 48;
  d = d - 48;
  e = e - 48;
  f = f - 48;
  g = g - 48;
  h = h - 48;
  digits = record {
    first = (omega (arith, digits.0), omega (arith, digits.1.0), omega (arith, digits.1.1.0), omega (arith, digits.1.1.1.0));
    last = (omega (arith, digits.1.1.1.1.0), omega (arith, digits.1.1.1.1.1.0), omega (arith, digits.1.1.1.1.1.1.0), omega (arith, digits.1.1.1.1.1.1.1.0));
    is = omega (
      arith,
      byte a digits.0,
      byte b digits.1.0,
      byte c digits.1.1.0,
      byte d digits.1.1.1.0,
      byte e digits.1.1.1.1.0,
      byte f digits.1.1.1.1.1.0,
      byte g digits.1.1.1.1.1.1.0,
      byte h digits.1.1.1.1.1.1.1.0,
    );
  };
  value = omega arith;
}
  where
    byte : (c : ℕ) → IsDigit c → (c + 208) % 256 ≡ c - 48
    byte c digit = omega (arith, digit)
eight_of ds long digits = absurd (omega (arith, long))

word-append : (xs ys : List ℕ) → word_of (xs ++ ys) ≡ word_of xs + 2 ^ (8 * length xs) * word_of ys
word-append [] ys = omega arith
word-append (x ∷ xs) ys =
    let more : 2 ^ (8 * suc (length xs)) ≡ 256 * 2 ^ (8 * length xs) = ap (λ (n : ℕ). 2 ^ n) (omega arith) ∙ pow-add 2 8 (8 * length xs) in
    let product : 256 * 2 ^ (8 * length xs) * word_of ys ≡ 256 * (2 ^ (8 * length xs) * word_of ys) = mul_assoc 256 (2 ^ (8 * length xs)) (word_of ys) in
    let whole : 2 ^ (8 * suc (length xs)) * word_of ys ≡ 256 * (2 ^ (8 * length xs) * word_of ys) = ap (λ (n : ℕ). n * word_of ys) more ∙ product in
    omega (arith, word-append xs ys, whole)

word-small : (xs : List ℕ) → word_of xs < 2 ^ (8 * length xs)
word-small [] = omega arith
word-small (x ∷ xs) =
    let more : 2 ^ (8 * suc (length xs)) ≡ 256 * 2 ^ (8 * length xs) = ap (λ (n : ℕ). 2 ^ n) (omega arith) ∙ pow-add 2 8 (8 * length xs) in
    omega (arith, word-small xs, more)

-- zeros before a number
word-zeros : (n : ℕ) → word_of (replicate n 48) ≡ 0
word-zeros zero = refl
word-zeros (suc n) = omega (arith, word-zeros n)

read-zeros : (n : ℕ) → read_on 0 (replicate n 48) ≡ 0
read-zeros zero = refl
read-zeros (suc n) = read-zeros n

zeros-before : (n : ℕ) (ds : List ℕ) → AreDigits ds → AreDigits (replicate n 48 ++ ds)
zeros-before zero ds digits = digits
zeros-before (suc n) ds digits = ((omega arith, omega arith), zeros-before n ds digits)

-- what follows the digits is pushed out of a word
pushed : (front rest above unit word whole : ℕ) → word ≡ front + above * rest → above * unit ≡ 2 ^ 64 → whole ≡ unit * front → whole < 2 ^ 64
    → word * unit % 2 ^ 64 ≡ whole
pushed front rest above unit word whole is product whole_is small =
    let apart : (front + above * rest) * unit ≡ unit * front + above * unit * rest = omega arith in
    let all : word * unit ≡ whole + 2 ^ 64 * rest = ap (λ (n : ℕ). n * unit) is ∙ apart ∙ ap (λ (n : ℕ). unit * front + n * rest) product
    ∙ ap (λ (n : ℕ). n + 2 ^ 64 * rest) (sym whole_is) in
    ap (λ (n : ℕ). n % 2 ^ 64) all ∙ omega (arith, small)

-- the first digits of a word after zeros
pub aligned : (count : ℕ) (bytes : List ℕ) (word : ℕ) → count ≤ 8 → length bytes ≡ 8 → word ≡ word_of bytes → AreDigits (take count bytes)
    → IsAligned (word * 2 ^ (64 - 8 * count) % 2 ^ 64) (read_on 0 (take count bytes))
aligned count bytes word most long is digits =
    let ds = take count bytes in
    let n = 8 - count in
    let zeros : List ℕ = replicate n 48 in
    let rest = word_of (drop count bytes) in
    let ds_long : length ds ≡ count = length-take-le count bytes (omega (arith, most, long)) in
    let zeros_long : length zeros ≡ n = length-replicate n 48 in
    let many : length (zeros ++ ds) ≡ 8 = omega (arith, length-append zeros ds, zeros_long, ds_long, most) in
    let parts : word ≡ word_of ds + 2 ^ (8 * count) * rest = is ∙ ap word_of (sym (take-append-drop count bytes)) ∙ word-append ds (drop count bytes)
    ∙ ap (λ (k : ℕ). word_of ds + 2 ^ (8 * k) * rest) ds_long in
    let unit : 2 ^ (8 * length zeros) ≡ 2 ^ (64 - 8 * count) = ap (λ (k : ℕ). 2 ^ k) (omega (arith, zeros_long, most)) in
    let front : 2 ^ (8 * length zeros) * word_of ds ≡ 2 ^ (64 - 8 * count) * word_of ds = ap (λ (k : ℕ). k * word_of ds) unit in
    let whole : word_of (zeros ++ ds) ≡ 2 ^ (64 - 8 * count) * word_of ds = omega (arith, word-append zeros ds, word-zeros n, front) in
    let bits : 8 * count + (64 - 8 * count) ≡ 64 = omega (arith, most) in
    let product : 2 ^ (8 * count) * 2 ^ (64 - 8 * count) ≡ 2 ^ 64 = sym (pow-add 2 (8 * count) (64 - 8 * count)) ∙ ap (λ (k : ℕ). 2 ^ k) bits in
    let small : word_of (zeros ++ ds) < 2 ^ 64 = subst (λ (k : ℕ). word_of (zeros ++ ds) < 2 ^ (8 * k)) many (word-small (zeros ++ ds)) in
    let same : read_on 0 (zeros ++ ds) ≡ read_on 0 ds = read_on-append 0 zeros ds ∙ ap (λ (k : ℕ). read_on k ds) (read-zeros n) in
    subst (λ (k : ℕ). IsAligned k (read_on 0 ds)) (sym (pushed (word_of ds) rest (2 ^ (8 * count)) (2 ^ (64 - 8 * count)) word (word_of (zeros ++ ds)) parts
    product whole small))
    (subst (IsAligned (word_of (zeros ++ ds))) same (eight_of (zeros ++ ds) many (zeros-before n ds digits)))

-- digits that don't begin with 0 are the numeral of what they spell
numeral_run : (ds : List ℕ) → AreDigits ds → 0 < length ds → get_or ds 0 0 ≢ 48 → ds ≡ numeral (read_on 0 ds)
numeral_run [] digits some first = absurd (omega (arith, some))
numeral_run (c ∷ cs) digits some first =
    let one : numeral (c - 48) ≡ c ∷ [] = numeral-one (c - 48) (omega (arith, digits.0)) ∙ ap (λ (k : ℕ). k ∷ []) (omega (arith, digits.0)) in
    let above : 0 < c - 48 = omega (arith, digits.0, first) in
    sym (ap (λ (n : ℕ). numeral (read_on n cs)) (omega arith) ∙ numeral-on (c - 48) cs above digits.1 ∙ ap (λ (l : List ℕ). l ++ cs) one)

pub digits_all : (xs : List ℕ) (n : ℕ) → ((i : ℕ) → i < n → IsDigit (get_or xs i 0)) → AreDigits (take n xs)
digits_all [] zero are = tt
digits_all [] (suc n) are = tt
digits_all (x ∷ xs) zero are = tt
digits_all (x ∷ xs) (suc n) are = (are 0 (omega arith), digits_all xs n (λ i lt. are (suc i) (omega (arith, lt))))

-- digits from a place of a piece on
pub digits_between : (piece : List ℕ) (at n : ℕ) → AreDigitsFrom piece at n → AreDigits (take n (drop at piece))
digits_between piece at n are = digits_all (drop at piece) n (λ i lt. subst IsDigit (sym (get_or-drop at piece i 0)) (are i lt))

-- the first of eight bytes
pub eight_front : (piece : List ℕ) (at n : ℕ) → n ≤ 8 → take n (take 8 (drop at piece)) ≡ take n (drop at piece)
eight_front piece at n few = take-take n 8 (drop at piece) few

-- digits of which the first isn't 0 are in the piece as the numeral of what they spell
pub digits_spell : (piece : List ℕ) (at n size : ℕ) → at + 8 ≤ length piece → 0 < n → n ≤ 8 → AreDigitsFrom piece at n → get_or piece at 0 ≢ 48
    → size ≡ read_on 0 (take n (take 8 (drop at piece))) → between at (at + n) piece ≡ numeral size
digits_spell piece at n size room some few are first is =
    let ds = take n (drop at piece) in
    let here : between at (at + n) piece ≡ ds = ap (λ (k : ℕ). take k (drop at piece)) (omega arith) in
    let long : length ds ≡ n = length-take-le n (drop at piece) (omega (arith, length-drop at piece, room, few)) in
    let head : get_or ds 0 0 ≡ get_or piece at 0 = get_or-take n (drop at piece) 0 0 some ∙ get_or-drop at piece 0 0 ∙ ap (λ (k : ℕ). get_or piece k 0)
    (omega arith) in
    let other : get_or ds 0 0 ≢ 48 = λ e. first (sym head ∙ e) in
    here ∙ numeral_run ds (digits_between piece at n are) (omega (arith, long, some)) other ∙ ap (λ (l : List ℕ). numeral (read_on 0 l)) (sym (eight_front
    piece at n few)) ∙ ap numeral (sym is)
