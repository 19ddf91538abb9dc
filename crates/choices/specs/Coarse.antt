-- Lines in 16 bits, as whole numbers of a unit.
use Rattle.std.specs.Prelude.{◌≡◌, ℕ, ◌-◌, ◌*◌, ◌^◌, ◌≤◌, ◌<◌, IsTrue, List, length, get_or, drop, ℤ, pos, ◌≤ℤ◌}
use Rattle.auction_model.specs.Package.{is_within}
use Rattle.auction_model.specs.Place.{left_at, states_of}
use Rattle.wide_num.specs.Sums.{nth}

-- if there are any of these units, they aren't above the number of the line
abbrev pub IsFloor : ℕ → List ℤ → List ℕ → Type 0
IsFloor unit line low = (s : ℕ) → s < length line → 0 < get_or low s 0 → pos (get_or low s 0 * unit) ≤ℤ nth line s

-- none of these units is below the number of the line, and none is so large that a sum of two leaves 16 bits
pub record IsCeiling (unit : ℕ) (line : List ℤ) (high : List ℕ) : Type 0 where
  pub above : (s : ℕ) → s < length line → nth line s ≤ℤ pos (get_or high s 0 * unit)
  pub short : (s : ℕ) → s < length line → get_or high s 0 ≤ 2 ^ 15

-- a line rounded down, and the line below it rounded up
pub record AreCoarse (unit : ℕ) (line below : List ℤ) (low high : List ℕ) : Type 0 where
  pub floor : IsFloor unit line low
  pub ceiling : IsCeiling unit below high
  pub places : length low ≡ length line
  pub places_below : length high ≡ length below

-- at each place of a block where the package fits the mask has all its bits
abbrev pub Marks : List ℕ → List ℕ → List ℕ → Type 0
Marks supply lots mask = (n : ℕ) → n < states_of supply → IsTrue (is_within lots (left_at supply n)) → get_or mask n 0 ≡ 2 ^ 16 - 1

-- the mask of the blocks of the last `level` categories of the package, if there are that many
abbrev pub HasMask : ℕ → List ℕ → List ℕ → List ℕ → Type 0
HasMask level supply lots mask = 0 < level → level ≤ length lots → Marks (drop (length lots - level) supply) (drop (length lots - level) lots) mask
