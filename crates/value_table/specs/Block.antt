-- A block of a line, and the lots of a bid in it.
use Rattle.std.specs.Prelude.{◌≡◌, ℕ, ◌≤◌, ◌<◌, IsTrue, List, length}
use Rattle.auction_model.specs.Package.{is_within}
use Rattle.auction_model.specs.Place.{place_of, states_of, widths_of}
use Rattle.limits.specs.declared.TheConstants.{MOST_STATES}

-- the widths are the supply's, and the lots, of its first categories, are within it and have this place
pub record IsBlock (supply spans lots : List ℕ) (first : ℕ) : Type 0 where
  pub widths : spans ≡ widths_of supply
  pub some : 0 < length lots
  pub categories : length lots ≤ length supply
  pub states : states_of supply ≤ MOST_STATES
  pub fits : IsTrue (is_within lots supply)
  pub place : first ≡ place_of supply lots
