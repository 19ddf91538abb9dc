-- A number that is counted or not.
use Rattle.std.specs.Prelude.{◌^◌, Bool, true, false, cond, ℤ, pos, ◌≤ℤ◌}
use Rattle.std.proofs.Common.{arith}
use Rattle.std.proofs.lemmas.Int.{ints}

-- a number that is at least 0 is so whether it is counted or not
pub counted-least : (b : Bool) (z : ℤ) → pos 0 ≤ℤ z → pos 0 ≤ℤ cond b z (pos 0)
counted-least true z h = h
counted-least false z h = omega (arith, ints)

-- a number from 0 to 2^42 is at most 2^42 whether it is counted or not
pub counted-most : (b : Bool) (z : ℤ) → pos 0 ≤ℤ z → z ≤ℤ pos (2 ^ 42) → cond b z (pos 0) ≤ℤ pos (2 ^ 42)
counted-most true z least h = h
counted-most false z least h = omega (arith, ints)
