-- What a package and a supply may be.
use Rattle.std.specs.Prelude.{◌≡◌, ℕ, ◌+◌, ◌≤◌, ◌<◌, ◌&&◌, ◌==◌, nat_le, nat_lt, Option, Some, None, List, length, position, sum, if◌then◌else◌}
use Rattle.std.specs.Option.{option_or, option_map}
use Rattle.auction_model.specs.Place.{states_of}
use Rattle.limits.specs.declared.TheConstants.{MOST_CATEGORIES, MOST_LOTS, MOST_STATES}
use Rattle.lots.specs.declared.LotStop.{LotStop}
use Rattle.lots.specs.declared.LotStop.TheVariants.{Categories, Zero, Lots, States}

-- there are 1 to 6 categories
abbrev pub categories_stop : List ℕ → Option LotStop
categories_stop counts = if nat_lt 0 (length counts) && nat_le (length counts) MOST_CATEGORIES then None else Some (Categories (length counts))

-- each category has a lot; categories are numbered from 1
abbrev pub zero_stop : List ℕ → Option LotStop
zero_stop counts = option_map (λ i. Zero (i + 1)) (position (λ n. n == 0) counts)

-- there are at most 40 lots over all categories
abbrev pub lots_stop : List ℕ → Option LotStop
lots_stop counts = if nat_le (sum counts) MOST_LOTS then None else Some (Lots (sum counts))

-- there are at most 16,384 states
abbrev pub states_stop : List ℕ → Option LotStop
states_stop counts = if nat_le (states_of counts) MOST_STATES then None else Some (States (states_of counts))

-- the first of these rules that a supply of these counts breaks
abbrev pub supply_stop : List ℕ → Option LotStop
supply_stop counts = option_or (categories_stop counts) (option_or (zero_stop counts) (option_or (lots_stop counts) (states_stop counts)))

-- what a supply keeps
pub record IsSupply (counts : List ℕ) : Type 0 where
  pub allowed : supply_stop counts ≡ None
  pub some : 0 < length counts
  pub categories : length counts ≤ MOST_CATEGORIES
  pub lots : sum counts ≤ MOST_LOTS
  pub states : states_of counts ≤ MOST_STATES

-- what a package keeps
pub record IsPackage (counts : List ℕ) : Type 0 where
  pub some : 0 < length counts
  pub categories : length counts ≤ MOST_CATEGORIES
