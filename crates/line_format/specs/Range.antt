-- Numbers strictly between -2^120 and 2^120, and lists of them.
use Rattle.std.specs.Prelude.{◌^◌, Bool, false, ◌||◌, nat_le, List, [], ◌∷◌, ℤ, unsigned_abs}
use Rattle.wide_num.specs.Range.{InRange}

-- not in the range
abbrev pub is_out : ℤ → Bool
is_out n = nat_le (2 ^ 120) (unsigned_abs n)

-- one of them is not
abbrev pub any_out : List ℤ → Bool
any_out [] = false
any_out (n ∷ ns) = is_out n || any_out ns

abbrev pub AllInRange : List ℤ → Type 0
AllInRange [] = Unit {0}
AllInRange (z ∷ zs) = InRange z × AllInRange zs
