-- The lines of a book have no line feed, and each number in them is below 2 ^ 120.
use Rattle.std.proofs.Common.{inl, inr, ◌≡◌, ◌≢◌, ℕ, ◌≤◌, ◌<◌, ◌^◌, List, [], ◌∷◌, ◌++◌, length, arith}
use Rattle.std.specs.Prelude.{codes, IsTrue}
use Rattle.std.specs.List.{AllByRecursion}
use Rattle.std.proofs.lemmas.Bool.Decides.{nat_tests}
use Rattle.std.specs.Fmt.{decimal}
use Rattle.wide_num.proofs.Decimal.{AreDigits, numeral_decimal}
use Rattle.line_format.specs.LineText.{IsLine}
use Rattle.line_format.proofs.Lines.{line_append}
use Rattle.auction_model.specs.Package.{is_within}
use Rattle.book_grammar.specs.BookForm.{IsNameByte, IsName}
use Rattle.line_format.specs.Decimals.{decimals_text}
use Rattle.bid_book.proofs.Numbers.{AreSmall}

-- no digits have a line feed among them
pub digits_line : (ds : List ℕ) → AreDigits ds → IsLine ds
digits_line [] all = tt
digits_line (d ∷ ds) all = ((λ is. absurd (omega (arith, all.0))), digits_line ds all.1)

-- a decimal of a number below 2 ^ 120 has no line feed
pub number_line : (n : ℕ) → n < 2 ^ 120 → IsLine (decimal n)
number_line n small = digits_line (decimal n) (numeral_decimal n (omega arith)).digits

-- fields of numbers below 2 ^ 120 have no line feed
pub numbers_line : (ns : List ℕ) → AreSmall ns → IsLine (decimals_text ns)
numbers_line [] small = tt
numbers_line (n ∷ ns) small = ((λ is. absurd (omega arith)), line_append (decimal n) (decimals_text ns) (number_line n small.0) (numbers_line ns small.1))

-- no byte of names is a line feed
pub name_byte : (c : ℕ) → IsNameByte c → c ≢ 10
name_byte c (inl letter) is = omega arith
name_byte c (inr (inl digit)) is = omega arith
name_byte c (inr (inr low)) is = omega arith

-- bytes of names have no line feed among them
pub name_bytes : (cs : List ℕ) → AllByRecursion IsNameByte cs → IsLine cs
name_bytes [] all = tt
name_bytes (c ∷ cs) all = (name_byte c all.0, name_bytes cs all.1)

-- a name has no line feed
pub name_line : (name : List ℕ) → IsName name → IsLine name
name_line [] is = absurd is
name_line (c ∷ cs) is = ((λ feed. omega (arith, is.0)), name_bytes cs is.1)

-- counts from 1 to 999 are below 2 ^ 120
pub small_supply : (ns : List ℕ) → AllByRecursion (λ n. (1 ≤ n) × (n ≤ 999)) ns → AreSmall ns
small_supply [] all = tt
small_supply (n ∷ ns) all = (omega (arith, all.0), small_supply ns all.1)

-- reserves up to 2 ^ 36 are below 2 ^ 120
pub small_reserves : (ns : List ℕ) → AllByRecursion (λ n. n ≤ 2 ^ 36) ns → AreSmall ns
small_reserves [] all = tt
small_reserves (n ∷ ns) all = (omega (arith, all.0), small_reserves ns all.1)

-- of a package within a supply, the first count is no more than there is, and the others are within the rest
pub within_parts : (a b : ℕ) (p s : List ℕ) → IsTrue (is_within (a ∷ p) (b ∷ s)) → (a ≤ b) × IsTrue (is_within p s)
within_parts a b p s is = (grind (arith, nat_tests), grind (arith, nat_tests))

-- the counts of a package within 1 to 999 lots of each category, and an amount up to 2 ^ 42, are below 2 ^ 120
pub small_counts : (cs ns : List ℕ) (amount : ℕ) → length cs ≡ length ns → IsTrue (is_within cs ns) → AllByRecursion (λ n. (1 ≤ n) × (n ≤ 999)) ns
    → amount ≤ 2 ^ 42 → AreSmall (cs ++ amount ∷ [])
small_counts [] ns amount same within all top = (omega arith, tt)
small_counts (c ∷ cs) [] amount same within all top = absurd (omega arith)
small_counts (c ∷ cs) (n ∷ ns) amount same within all top =
    let parts = within_parts c n cs ns within in
    (omega (arith, parts.0, all.0), small_counts cs ns amount (omega arith) parts.1 all.1 top)

-- the line that a book begins with has no line feed
pub book_word : IsLine (codes "book 1")
book_word = (
  (λ is. absurd (omega arith)),
  (
    (λ is. absurd (omega arith)),
    (
      (λ is. absurd (omega arith)),
      ((λ is. absurd (omega arith)), ((λ is. absurd (omega arith)), ((λ is. absurd (omega arith)), tt))),
    ),
  ),
)

-- the word of the supply has no line feed
pub supply_word : IsLine (codes "supply")
supply_word = (
  (λ is. absurd (omega arith)),
  (
    (λ is. absurd (omega arith)),
    (
      (λ is. absurd (omega arith)),
      ((λ is. absurd (omega arith)), ((λ is. absurd (omega arith)), ((λ is. absurd (omega arith)), tt))),
    ),
  ),
)

-- the word of the reserves has no line feed
pub reserve_word : IsLine (codes "reserve")
reserve_word = (
  (λ is. absurd (omega arith)),
  (
    (λ is. absurd (omega arith)),
    (
      (λ is. absurd (omega arith)),
      ((λ is. absurd (omega arith)), ((λ is. absurd (omega arith)), ((λ is. absurd (omega arith)), ((λ is. absurd (omega arith)), tt)))),
    ),
  ),
)

-- the word of a bidder, with its space, has no line feed
pub bidder_word : IsLine (codes "bidder ")
bidder_word = (
  (λ is. absurd (omega arith)),
  (
    (λ is. absurd (omega arith)),
    (
      (λ is. absurd (omega arith)),
      ((λ is. absurd (omega arith)), ((λ is. absurd (omega arith)), ((λ is. absurd (omega arith)), ((λ is. absurd (omega arith)), tt)))),
    ),
  ),
)

-- the word of a bid has no line feed
pub bid_word : IsLine (codes "bid")
bid_word = ((λ is. absurd (omega arith)), ((λ is. absurd (omega arith)), ((λ is. absurd (omega arith)), tt)))

-- the line that a book ends with has no line feed
pub end_word : IsLine (codes "end")
end_word = ((λ is. absurd (omega arith)), ((λ is. absurd (omega arith)), ((λ is. absurd (omega arith)), tt)))
