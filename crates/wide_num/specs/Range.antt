-- The numbers of the range, and what an exact operation on them answers.
use Rattle.std.specs.Prelude.{Err, Ok, Result, unsigned_abs, ℤ, ◌*ℤ◌, ◌<◌, ◌^◌, ◌≡◌, ◌≤◌}
use Rattle.wide_num.specs.declared.Op.{Op}
use Rattle.wide_num.specs.declared.Wide.{Wide}

-- strictly between -2^120 and 2^120
abbrev pub InRange : ℤ → Type 0
InRange z = unsigned_abs z < 2 ^ 120

-- w names this operation and these operands, and the exact result leaves the range
abbrev pub Leaves : Wide → Op → ℤ → ℤ → ℤ → Type 0
Leaves w op a b exact = (w.op ≡ op) × (w.left ≡ a) × (w.right ≡ b) × (2 ^ 120 ≤ unsigned_abs exact)

-- the exact result if it is in the range, and else the operation with its operands
abbrev pub IsExact : Op → ℤ → ℤ → ℤ → Result ℤ Wide → Type 0
IsExact op a b exact (Ok z) = (z ≡ exact) × InRange exact
IsExact op a b exact (Err w) = Leaves w op a b exact

-- some multiple of d is a
abbrev pub Divides : ℤ → ℤ → Type 0
Divides d a = (q : ℤ) × (d *ℤ q ≡ a)
