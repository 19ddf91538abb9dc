-- The conditions and the result of adding one more bid to a line.
use Rattle.std.specs.Prelude.{◌≡◌, ℕ, ◌≤◌, ◌<◌, ◌^◌, IfSome, List, Option, length, map, slice_index_or, ℤ, pos, unsigned_abs}
use Rattle.auction_model.specs.Steps.{raised}
use Rattle.choices.specs.Coarse.{AreCoarse}

-- a line and the line below it have that many places, and the worth and the numbers of the line below are so small that a sum of both
-- is a number of their size
pub record CanRaise {A : Type 0} (number : A → ℤ) (most states : ℕ) (own rest : List A) (amount : A) : Type 0 where
  pub line : length own ≡ states
  pub places : length rest ≡ states
  pub worth : unsigned_abs (number amount) ≤ most
  pub sizes : (s : ℕ) → unsigned_abs (slice_index_or (map number rest) s (pos 0)) ≤ most

-- a bid of some lots and a worth is added at each place of a line where it fits
abbrev pub IsRaisedBy : {A : Type 0} → (A → ℤ) → List ℕ → List ℕ → List A → A → List A → List A → Type 0
IsRaisedBy number supply lots below worth old new = (s : ℕ) → s < length old
    → slice_index_or (map number new) s (pos 0)
    ≡ raised supply (map number below) lots (number worth) s (slice_index_or (map number old) s (pos 0))

-- a line and the line below it is in units of 2^shift too
pub record AreInUnits {A : Type 0} (number : A → ℤ) (shift : ℕ) (own rest : List A) (low high : List ℕ) : Type 0 where
  pub small : shift < 64
  pub coarse : AreCoarse (2 ^ shift) (map number own) (map number rest) low high
  pub places : length low ≡ length own
  pub places_below : length high ≡ length rest

-- they do if there is a shift
abbrev pub MayBeInUnits : {A : Type 0} → (A → ℤ) → Option ℕ → List A → List A → List ℕ → List ℕ → Type 0
MayBeInUnits number shift own rest low high = IfSome shift (λ k. AreInUnits number k own rest low high)
