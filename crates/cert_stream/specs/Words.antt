-- Eight bytes of a piece in one word, and what its digits spell.
use Rattle.std.specs.Prelude.{◌≡◌, ℕ, ◌+◌, ◌*◌, ◌%◌, ◌<◌, List, [], ◌∷◌, get_or}
use Rattle.wide_num.proofs.Decimal.{IsDigit}

-- that many digits are in the piece from this place on
abbrev pub AreDigitsFrom : List ℕ → ℕ → ℕ → Type 0
AreDigitsFrom piece at n = (i : ℕ) → i < n → IsDigit (get_or piece (at + i) 0)

-- each byte less the byte of the digit 0, the first one lowest
abbrev pub word_of : List ℕ → ℕ
word_of [] = 0
word_of (c ∷ cs) = (c + 208) % 256 + 256 * word_of cs

-- eight digits, in a byte each
pub record AreEight (word a b c d e f g h : ℕ) : Type 0 where
  pub first : (a < 10) × (b < 10) × (c < 10) × (d < 10)
  pub last : (e < 10) × (f < 10) × (g < 10) × (h < 10)
  pub is : word ≡ a + 256 * (b + 256 * (c + 256 * (d + 256 * (e + 256 * (f + 256 * (g + 256 * h))))))

-- four numbers of two digits, in two bytes each
pub record ArePairs (word a b c d : ℕ) : Type 0 where
  pub low : (a < 100) × (b < 100) × (c < 100) × (d < 100)
  pub is : word ≡ a + 65536 * (b + 65536 * (c + 65536 * d))

-- two numbers of four digits, in four bytes each
pub record AreFours (word a b : ℕ) : Type 0 where
  pub low : (a < 10000) × (b < 10000)
  pub is : word ≡ a + 4294967296 * b
