-- Numbers of 64 bits in units, from their bits.
use Rattle.std.specs.Prelude.{◌≡◌, ℕ, ◌+◌, ◌*◌, ◌/◌, ◌%◌, ◌^◌, ◌≤◌, ◌<◌, List, length, get_or, ℤ, pos, negsuc, ◌≤ℤ◌}
use Rattle.std.proofs.Common.{◌≢◌, arith, set, get_or-set_other, get_or-set_same, below_more}
use Rattle.std.proofs.lemmas.Int.{ints}
use Rattle.std.proofs.lemmas.Nat.{div-add-mod', mod_below, mul-le}
use Rattle.wide_num.specs.Sums.{nth}
use mir.Val.{SFits, of_z}
use mir.Syntax.{w64}

-- units of a number that isn't below 0 are no more than it, and some of their bits are no more than they
pub bits-floor : (z : ℤ) (bits unit last : ℕ) → SFits w64 z → bits ≡ of_z w64 z → bits < 2 ^ 63 → last ≤ bits / unit → pos (last * unit) ≤ℤ z
bits-floor (pos n) bits unit last fits is small le =
    let product : last * unit ≤ bits / unit * unit = mul-le last unit (bits / unit) unit le (omega arith) in
    let whole : bits / unit * unit + bits % unit ≡ bits = div-add-mod' bits unit in
    let same : bits ≡ n = is in
    omega (arith, ints, product, whole, same)
bits-floor (negsuc n) bits unit last fits is small le = absurd (omega (arith, fits.sfits, is, small))

-- a number, also one below 0, isn't above the units that its bits give, rounded up
pub bits-ceiling : (z : ℤ) (bits unit : ℕ) → SFits w64 z → bits ≡ of_z w64 z → 0 < unit → z ≤ℤ pos ((bits / unit + 1) * unit)
bits-ceiling (pos n) bits unit fits is some =
    let whole : bits / unit * unit + bits % unit ≡ bits = div-add-mod' bits unit in
    let rest : bits % unit < unit = mod_below bits unit some in
    let next : (bits / unit + 1) * unit ≡ bits / unit * unit + unit = omega arith in
    let same : bits ≡ n = is in
    omega (arith, ints, whole, rest, next, same)
bits-ceiling (negsuc n) bits unit fits is some = omega (arith, ints)

-- the first numbers are known rounded down
abbrev pub IsFloorSoFar : ℕ → List ℤ → List ℕ → ℕ → Type 0
IsFloorSoFar unit line low n = (s : ℕ) → s < n → pos (get_or low s 0 * unit) ≤ℤ nth line s

pub floor-more : (unit : ℕ) (line : List ℤ) (low : List ℕ) (p x : ℕ) → p < length low → IsFloorSoFar unit line low p → pos (x * unit) ≤ℤ nth line p
    → IsFloorSoFar unit line (set low p x) (p + 1)
floor-more unit line low p x inside done own = below_more (λ s. pos (get_or (set low p x) s 0 * unit) ≤ℤ nth line s) p
    (λ s h. let other : s ≢ p = omega arith in rw get_or-set_other (done s h))
    (rw get_or-set_same own)

-- the first numbers are known rounded up, and none is large
abbrev pub IsCeilingSoFar : ℕ → List ℤ → List ℕ → ℕ → Type 0
IsCeilingSoFar unit line high n = (s : ℕ) → s < n → (nth line s ≤ℤ pos (get_or high s 0 * unit)) × (get_or high s 0 ≤ 2 ^ 15)

pub ceiling-more : (unit : ℕ) (line : List ℤ) (high : List ℕ) (p x : ℕ) → p < length high → IsCeilingSoFar unit line high p
    → nth line p ≤ℤ pos (x * unit) → x ≤ 2 ^ 15 → IsCeilingSoFar unit line (set high p x) (p + 1)
ceiling-more unit line high p x inside done own small = below_more
    (λ s. (nth line s ≤ℤ pos (get_or (set high p x) s 0 * unit)) × (get_or (set high p x) s 0 ≤ 2 ^ 15)) p
    (λ s h. let other : s ≢ p = omega arith in (rw get_or-set_other ((done s h).0), rw get_or-set_other ((done s h).1)))
    (rw get_or-set_same own, rw get_or-set_same small)
