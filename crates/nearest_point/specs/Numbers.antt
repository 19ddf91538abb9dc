-- Numbers by far and near parts, numbers listed by place, and their sizes.
use Rattle.std.specs.Prelude.{Bool, List, if◌then◌else◌, length, nat_eq, pos, slice_index_or, suc, unsigned_abs, zero, ℕ, ℤ, ◌*ℤ◌, ◌*◌, ◌+ℤ◌, ◌+◌, ◌-◌, ◌<◌, ◌^◌}
use Rattle.wide_num.specs.Sums.{nth, total}

-- each number is below the limit in size
abbrev pub AreBelow : ℕ → List ℤ → Type 0
AreBelow limit xs = (i : ℕ) → i < length xs → unsigned_abs (nth xs i) < limit

-- a number above every near part, instead of one above every number
abbrev pub large : ℤ
large = pos (2 ^ 120)

-- far parts times t and near parts
abbrev pub at_t : ℤ → (ℕ → ℤ) → (ℕ → ℤ) → ℕ → ℤ
at_t t far near j = far j *ℤ t +ℤ near j

-- what is at a place of a list of places
abbrev pub place : List ℕ → ℕ → ℕ
place list i = slice_index_or list i 0

-- the number if the test is true, and else 0
abbrev pub when : Bool → ℤ → ℤ
when b x = if b then x else pos 0

-- what row q has of the multipliers l of n listed rows: the sum of those at the places that list it
abbrev pub spread : ℕ → (ℕ → ℕ) → (ℕ → ℤ) → ℕ → ℤ
spread n rows l q = total n (λ i. when (nat_eq (rows i) q) (l i))

-- how many of the first r rows have a pair other than 0, 0
abbrev pub is_zero : ℤ → ℕ
is_zero (pos zero) = 1
is_zero _ = 0

abbrev pub pairs_used : ℕ → (ℕ → ℤ) → (ℕ → ℤ) → ℕ
pairs_used zero first second = 0
pairs_used (suc r) first second = pairs_used r first second + (1 - is_zero (first r) * is_zero (second r))
