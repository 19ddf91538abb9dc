-- How many bytes the parts and the rows of a certificate have, and its lines of short numbers.
use Rattle.std.proofs.Common.{◌≡◌, ◌≢◌, ℕ, suc, zero, ◌+◌, ◌*◌, ◌≤◌, ◌<◌, cond, List, [], ◌∷◌, length, codes, get_or, refl, ap, subst, ◌∙◌, arith, unsigned_abs}
use Rattle.std.specs.Prelude.{ℤ, pos}
use Rattle.std.proofs.lemmas.Bool.{ne_eqb, eq-eqb}
use Rattle.line_format.specs.Numeral.{numbers_text}
use Rattle.line_format.proofs.Lengths.{AllBelow, numbers_long, tens, times}
use Rattle.core_laws.specs.Winners.{winners_in}
use Rattle.cert_grammar.specs.Certificate.{WithoutValue, RowValue, part_of}
use Rattle.cert_grammar.specs.CertText.{line, choice_line, table_lines, part_lines, row_lines, IsWithout, AreWithouts, AreRows}
use Rattle.cert_grammar.proofs.LineSizes.{size, size-append, line-size, choice-size, row-size, AreShort}

-- 16 added that many times is the product
pub times-16 : (n : ℕ) → times n 16 ≡ 16 * n
times-16 zero = refl
times-16 (suc n) = omega (arith, times-16 n)

-- numbers of at most 14 digits
pub entries-short : (zs : List ℤ) → length zs ≤ 16384 → AllBelow (tens 14) zs → length (numbers_text zs) ≤ 262144
entries-short zs few small = omega (arith, numbers_long 13 zs small, times-16 (length zs), few)

-- numbers that are small at each place are all small
pub below-from : (most : ℕ) (zs : List ℤ) → ((i : ℕ) → unsigned_abs (get_or zs i (pos 0)) < most) → AllBelow most zs
below-from most [] f = tt
below-from most (z ∷ zs) f = (f 0, below-from most zs (λ i. f (suc i)))

-- a table whose lines are short at each place is short
pub short-from : (most : ℕ) (table : List (List ℤ)) → ((k : ℕ) → k < length table → length (numbers_text (get_or table k [])) ≤ most) → AreShort most table
short-from most [] f = tt
short-from most (t ∷ table) f = (f 0 (omega arith), short-from most table (λ k lt. f (suc k) (omega (arith, lt))))

-- each part passes
abbrev pub AllParts : (WithoutValue → Type 0) → List WithoutValue → Type 0
AllParts T [] = Unit {0}
AllParts T (w ∷ ws) = T w × AllParts T ws

part-here : (w : WithoutValue) (ws : List WithoutValue) (j : ℕ) → w.winner ≡ j → part_of (w ∷ ws) j ≡ w
part-here w ws j own = ap (λ b. cond b w (part_of ws j)) (eq-eqb w.winner j own)

-- the part of a bidder is not the first if that has another winner
pub part-later : (w : WithoutValue) (ws : List WithoutValue) (j : ℕ) → w.winner ≢ j → part_of (w ∷ ws) j ≡ part_of ws j
part-later w ws j other = ap (λ b. cond b w (part_of ws j)) (ne_eqb w.winner j other)

-- what passes for the part of each winner passes for each part
pub parts-all : (T : WithoutValue → Type 0) (b s j : ℕ) (ns : List ℕ) (ws : List WithoutValue) → AreWithouts b s j ns ws
    → ((i : ℕ) → i < length ns → 0 < get_or ns i 0 → T (part_of ws (j + i))) → AllParts T ws
parts-all T b s j [] [] is f = tt
parts-all T b s j [] (w ∷ ws) is f = absurd is
parts-all T b s j (zero ∷ ns) ws is f =
    parts-all T b s (suc j) ns ws is (λ i lt some. subst (λ (x : ℕ). T (part_of ws x)) (omega arith) (f (suc i) (omega (arith, lt)) some))
parts-all T b s j (suc n ∷ ns) [] is f = absurd is
parts-all T b s j (suc n ∷ ns) (w ∷ ws) is f = (
  subst T (part-here w ws (j + 0) (is.0.winner ∙ omega arith)) (f 0 (omega arith) (omega arith)),
  parts-all T b s (suc j) ns ws is.1
      (λ i lt some. subst (λ (x : ℕ). T (part_of ws x)) (omega arith) (subst T (part-later w ws (j + suc i) (λ e. omega (arith, e, is.0.winner)))
      (f (suc i) (omega (arith, lt)) some))),
)

-- its table has at most that many bytes
abbrev pub HasShortTable : WithoutValue → Type 0
HasShortTable w = size (table_lines w.table) ≤ 4456482

own-size : (b s j : ℕ) (w : WithoutValue) → b ≤ 16 → j ≤ 16 → IsWithout b s j w → HasShortTable w → size
    (line (codes "without") (pos w.winner ∷ []) ∷ choice_line w.choice ∷ line (codes "table") [] ∷ table_lines w.table) ≤ 4457200
own-size b s j w few low is short =
    let first = line-size (codes "without") (pos w.winner ∷ []) 1 (omega (arith, is.winner, low), tt) (omega arith) in
    let second = choice-size b w.choice few is.choice in
    let third = line-size (codes "table") [] 0 tt (omega arith) in
    omega (arith, first, second, third, short)

-- parts with short tables have at most 4,457,200 bytes for each winner
pub parts-size : (b s j : ℕ) (ns : List ℕ) (ws : List WithoutValue) → b ≤ 16 → j + length ns ≤ 17 → AreWithouts b s j ns ws → AllParts HasShortTable ws
    → size (part_lines ws) ≤ times (winners_in ns) 4457200
parts-size b s j [] [] few le is short = omega arith
parts-size b s j [] (w ∷ ws) few le is short = absurd is
parts-size b s j (zero ∷ ns) ws few le is short = parts-size b s (suc j) ns ws few (omega (arith, le)) is short
parts-size b s j (suc n ∷ ns) [] few le is short = absurd is
parts-size b s j (suc n ∷ ns) (w ∷ ws) few le is short =
    let own = own-size b s j w few (omega (arith, le)) is.0 short.0 in
    let rest = parts-size b s (suc j) ns ws few (omega (arith, le)) is.1 short.1 in
    omega (
      arith,
      own,
      rest,
      size-append (line (codes "without") (pos w.winner ∷ []) ∷ choice_line w.choice ∷ line (codes "table") [] ∷ table_lines w.table)
          (part_lines ws),
    )

-- rows have at most 1,350 bytes each
pub rows-size : (b : ℕ) (rows : List RowValue) → b ≤ 16 → AreRows b rows → size (row_lines rows) ≤ times (length rows) 1350
rows-size b [] few is = omega arith
rows-size b (r ∷ rows) few is = omega (arith, row-size b r few is.0, rows-size b rows few is.1)
