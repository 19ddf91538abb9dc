-- How many bytes the lines of a certificate have.
use Rattle.std.proofs.Common.{◌≡◌, ℕ, suc, zero, ◌+◌, ◌*◌, ◌≤◌, ◌<◌, List, [], ◌∷◌, ◌++◌, length, codes, refl, arith, length-append}
use Rattle.std.specs.Prelude.{ℤ}
use Rattle.line_format.specs.LineText.{text_of}
use Rattle.line_format.specs.Numeral.{numbers_text}
use Rattle.line_format.specs.Range.{AllInRange}
use Rattle.line_format.proofs.Lengths.{tens, times, AllBelow, numbers_long}
use Rattle.cert_grammar.specs.Certificate.{RowValue}
use Rattle.cert_grammar.specs.Plan.{placed, next_place}
use Rattle.cert_grammar.specs.Lines.{Line, spell, over}
use Rattle.cert_grammar.specs.CertText.{line, as_numbers, choice_line, table_lines, AtMost, IsChoice, AreTableLines, AreMembers, IsRow}
use Rattle.cert_grammar.proofs.Written.{long_numbers}
use Rattle.cert_grammar.proofs.Ranges.{low_members}

-- the bytes of lines, each with its line feed
abbrev pub size : List Line → ℕ
size [] = 0
size (l ∷ ls) = length (spell l) + 1 + size ls

-- lines and others after them have the bytes of both
pub size-append : (xs ys : List Line) → size (xs ++ ys) ≡ size xs + size ys
size-append [] ys = omega arith
size-append (x ∷ xs) ys = omega (arith, size-append xs ys)

-- they are those of the text, wherever the lines begin
pub text-size : (p : ℕ) (ls : List Line) → length (text_of (placed spell over p ls)) ≡ size ls
text-size p [] = refl
text-size p (l ∷ ls) = omega (
  arith,
  length-append (spell l) (10 ∷ text_of (placed spell over (next_place spell over p l) ls)),
  text-size (next_place spell over p l) ls,
)

-- fewer times a number is no more
pub times-le : (n m k : ℕ) → n ≤ m → times n k ≤ times m k
times-le zero m k le = omega arith
times-le (suc n) zero k le = absurd (omega (arith, le))
times-le (suc n) (suc m) k le = omega (arith, times-le n m k (omega (arith, le)))

-- 39 added that many times is the product
pub times-39 : (n : ℕ) → times n 39 ≡ 39 * n
times-39 zero = refl
times-39 (suc n) = omega (arith, times-39 n)

-- a number in range has at most 37 digits
range-below : (zs : List ℤ) → AllInRange zs → AllBelow (tens 37) zs
range-below [] all = tt
range-below (z ∷ zs) all = (omega (arith, all.0), range-below zs all.1)

small-below : (most : ℕ) (ns : List ℕ) → most < tens 37 → AtMost most ns → AllBelow (tens 37) (as_numbers ns)
small-below most [] lt all = tt
small-below most (n ∷ ns) lt all = (omega (arith, lt, all.0), small-below most ns lt all.1)

-- a line of that many numbers in range at most
pub line-size : (word : List ℕ) (zs : List ℤ) (most : ℕ) → AllBelow (tens 37) zs → length zs ≤ most
    → length (spell (line word zs)) ≤ length word + 39 * most
line-size word zs most small few =
    let long = numbers_long 36 zs small in
    omega (arith, long, times-39 (length zs), few, length-append word (numbers_text zs))

-- a line of one number of at most 65,535 for each of at most 16 bidders
pub each-size : (word : List ℕ) (b : ℕ) (ns : List ℕ) → b ≤ 16 → IsChoice b ns → length (spell (line word (as_numbers ns))) ≤ length word + 624
each-size word b ns few is =
    line-size word (as_numbers ns) 16 (small-below 65535 ns (omega arith) is.1) (omega (arith, few, is.0, long_numbers ns))

-- the line of a choice of at most 16 bidders has at most 630 bytes
pub choice-size : (b : ℕ) (choice : List ℕ) → b ≤ 16 → IsChoice b choice → length (spell (choice_line choice)) ≤ 630
choice-size b choice few is = each-size (codes "choice") b choice few is

-- each line of a table has at most that many bytes of numbers
abbrev pub AreShort : ℕ → List (List ℤ) → Type 0
AreShort most [] = Unit {0}
AreShort most (t ∷ table) = (length (numbers_text t) ≤ most) × AreShort most table

-- a table has for each line at most two bytes more than the numbers of a line may have
pub table-size : (most : ℕ) (table : List (List ℤ)) → AreShort most table → size (table_lines table) ≤ times (length table) (most + 2)
table-size most [] short = omega arith
table-size most (t ∷ table) short = omega (arith, short.0, table-size most table short.1)

-- lines of at most that many numbers in range
pub range-short : (s most : ℕ) (table : List (List ℤ)) → s ≤ most → AreTableLines s table → AreShort (39 * most) table
range-short s most [] few is = tt
range-short s most (t ∷ table) few is = (
  omega (arith, numbers_long 36 t (range-below t is.1), times-39 (length t), is.0, few),
  range-short s most table few is.2,
)

-- rising members are no more than the bidders above the one before
members-few : (b before : ℕ) (js : List ℕ) → before ≤ b → AreMembers b before js → before + length js ≤ b
members-few b before [] le is = omega (arith, le)
members-few b before (j ∷ js) le is = omega (arith, is.0, members-few b j js is.1 is.2)

-- the members, the multipliers and the choice of a row have at most 1,350 bytes
pub row-size : (b : ℕ) (r : RowValue) → b ≤ 16 → IsRow b r
    → size (line (codes "row") (as_numbers r.members) ∷ line (codes "mult") (r.first ∷ r.second ∷ []) ∷ choice_line r.choice ∷ []) ≤ 1350
row-size b r few is =
    let below = small-below b r.members (omega (arith, few)) (low_members b 0 r.members is.members) in
    let held : length (as_numbers r.members) ≤ 16 = omega (arith, long_numbers r.members, few, members-few b 0 r.members (omega arith) is.members) in
    let first = line-size (codes "row") (as_numbers r.members) 16 below held in
    let second = line-size (codes "mult") (r.first ∷ r.second ∷ []) 2 (omega (arith, is.range.0), (omega (arith, is.range.1), tt)) (omega arith) in
    omega (arith, first, second, choice-size b r.choice few is.choice)

-- the line of the payments has at most 627 bytes
pub pay-size : (b : ℕ) (pay : List ℤ) → b ≤ 16 → length pay ≡ b → AllInRange pay → length (spell (line (codes "pay") pay)) ≤ 627
pay-size b pay few long all = omega (arith, line-size (codes "pay") pay 16 (range-below pay all) (omega (arith, few, long)))
