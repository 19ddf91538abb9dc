-- Rows of whole numbers: their numbers, sums and products.
use Rattle.std.specs.Prelude.{List, pos, slice_index_or, suc, zero, ℕ, ℤ, ◌*ℤ◌, ◌+ℤ◌}

-- the number at a place of a list, and 0 past its end
abbrev pub nth : List ℤ → ℕ → ℤ
nth xs i = slice_index_or xs i (pos 0)

-- f 0 + .. + f (n - 1)
abbrev pub total : ℕ → (ℕ → ℤ) → ℤ
total zero f = pos 0
total (suc n) f = total n f +ℤ f n

-- the sum of the products of the first n numbers of two rows
abbrev pub dot : ℕ → (ℕ → ℤ) → (ℕ → ℤ) → ℤ
dot n a v = total n (λ (i : ℕ). a i *ℤ v i)
