-- A word at the start of a line, and the line's numbers.
use Rattle.std.proofs.Common.{◌≡◌, ℕ, List, [], ◌∷◌, ◌++◌, length, take, drop, refl, sym, ap, ◌∙◌}
use Rattle.std.specs.Prelude.{ℤ}
use Rattle.line_format.specs.Numeral.{numbers_text}
use Rattle.line_format.proofs.Numerals.{one_numbers}

-- the first bytes of a word and a rest, as many as the word has, are the word
pub word_front : (word rest : List ℕ) → take (length word) (word ++ rest) ≡ word
word_front [] rest = refl
word_front (c ∷ word) rest = ap (λ (l : List ℕ). c ∷ l) (word_front word rest)

-- what follows a word
pub word_rest : (word rest : List ℕ) → drop (length word) (word ++ rest) ≡ rest
word_rest [] rest = refl
word_rest (c ∷ word) rest = word_rest word rest

-- after a word stand one line's numbers
pub one_behind : (word : List ℕ) (ns ms : List ℤ) → word ++ numbers_text ns ≡ word ++ numbers_text ms → ns ≡ ms
one_behind word ns ms e = one_numbers ns ms (sym (word_rest word (numbers_text ns)) ∙ ap (λ (l : List ℕ). drop (length word) l) e
    ∙ word_rest word (numbers_text ms))
