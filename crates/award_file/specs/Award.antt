-- What each award keeps, and who a name is in it.
use Rattle.std.specs.Prelude.{◌≡◌, ℕ, ◌+◌, ◌-◌, ◌≤◌, ◌<◌, Bool, not, List, [], ◌∷◌, length, map, Option, Some, None, position, slice_index_or}
use Rattle.std.specs.List.{All, IsDistinct, list_any}
use Rattle.std.specs.Str.{bytes_eq}
use Rattle.limits.specs.declared.TheConstants.{MOST_BIDDERS, MOST_CAPS, MOST_CAP_LIMIT, MOST_CAP_WEIGHT, MOST_COUNT, MOST_ELIGIBILITY, MOST_EXCESS}
use Rattle.limits.specs.declared.TheConstants.{MOST_PERMILLE, MOST_POINTS, MOST_PRICE, MOST_STEPS}
use Rattle.auction_rules.specs.Terms.{SpectrumCap, Entrant, Terms}
use Rattle.book_grammar.specs.BookForm.{IsName}
use Rattle.lots.specs.Limits.{IsSupply}

-- how prices rise: the tick, and the thresholds, each an excess with its permille
pub record Steps : Type 0 where
  pub tick : ℕ
  pub thresholds : List (ℕ × ℕ)

abbrev pub steps_with : ℕ → List (ℕ × ℕ) → Steps
steps_with tick thresholds = record { tick = tick; thresholds = thresholds }

abbrev pub steps_of : Terms → Steps
steps_of terms = steps_with terms.tick terms.thresholds

-- each threshold has an excess above the one before, and a permille of at least 1
abbrev pub RiseAbove : ℕ → List (ℕ × ℕ) → Type 0
RiseAbove low [] = Unit {0}
RiseAbove low (t ∷ ts) = (low < t.0) × (t.0 ≤ MOST_EXCESS) × (1 ≤ t.1) × (t.1 ≤ MOST_PERMILLE) × RiseAbove t.0 ts

-- there is a threshold, and the first has the excess 1
abbrev pub AreThresholds : List (ℕ × ℕ) → Type 0
AreThresholds [] = ⊥
AreThresholds (t ∷ ts) = (t.0 ≡ 1) × RiseAbove 0 (t ∷ ts)

-- what a step table keeps
pub record IsSteps (steps : Steps) : Type 0 where
  pub some_tick : 1 ≤ steps.tick
  pub tick_top : steps.tick ≤ MOST_PRICE
  pub few : length steps.thresholds ≤ MOST_STEPS
  pub thresholds : AreThresholds steps.thresholds

-- a bidder of an award with that many categories
pub record IsEntrant (categories : ℕ) (e : Entrant) : Type 0 where
  pub name : IsName e.name
  pub eligibility : e.eligibility ≤ MOST_ELIGIBILITY
  pub holding : length e.holding ≡ categories
  pub most_held : All (λ n. n ≤ MOST_COUNT) e.holding

-- a spectrum cap of an award with that many categories
pub record IsCap (categories : ℕ) (r : SpectrumCap) : Type 0 where
  pub weights : length r.weights ≡ categories
  pub most_weight : All (λ w. w ≤ MOST_CAP_WEIGHT) r.weights
  pub limit : r.limit ≤ MOST_CAP_LIMIT

abbrev pub name_of : Entrant → List ℕ
name_of e = e.name

abbrev pub names_of : List Entrant → List (List ℕ)
names_of bidders = map name_of bidders

-- no name occurs twice
abbrev pub AreNamedApart : List Entrant → Type 0
AreNamedApart bidders = IsDistinct bytes_eq (names_of bidders)

-- what an award keeps
pub record IsAward (terms : Terms) : Type 0 where
  pub version : (1 ≤ terms.version) × (terms.version ≤ 2)
  pub supply : IsSupply terms.supply
  pub points : length terms.points ≡ length terms.supply
  pub most_points : All (λ p. p ≤ MOST_POINTS) terms.points
  pub reserves : length terms.reserves ≡ length terms.supply
  pub most_reserve : All (λ p. p ≤ MOST_PRICE) terms.reserves
  pub steps : IsSteps (steps_of terms)
  pub few_bidders : length terms.bidders ≤ MOST_BIDDERS
  pub bidders : All (IsEntrant (length terms.supply)) terms.bidders
  pub apart : AreNamedApart terms.bidders
  pub few_caps : length terms.caps ≤ MOST_CAPS
  pub caps : All (IsCap (length terms.supply)) terms.caps

abbrev pub entrant_with : List ℕ → ℕ → List ℕ → Entrant
entrant_with name eligibility holding = record { name = name; eligibility = eligibility; holding = holding }

-- the award of these parts
abbrev pub terms_with : ℕ → List ℕ → List ℕ → List ℕ → Steps → List Entrant → List SpectrumCap → Terms
terms_with version supply points reserves steps bidders caps = record {
  version = version;
  supply = supply;
  points = points;
  reserves = reserves;
  tick = steps.tick;
  thresholds = steps.thresholds;
  caps = caps;
  bidders = bidders;
}

-- bidder j of these; bidders are numbered from 1
abbrev pub bidder_at : List Entrant → ℕ → Entrant
bidder_at bidders j = slice_index_or bidders (j - 1) (entrant_with [] 0 [])

-- the number at an index, counted from 1, and 0 for none
abbrev pub from_one : Option ℕ → ℕ
from_one (Some i) = i + 1
from_one None = 0

-- the number of the first of the names that is this one, and 0 if there is none
abbrev pub number_among : List ℕ → List (List ℕ) → ℕ
number_among name names = from_one (position (bytes_eq name) names)

-- the number of the bidder of this name, and 0 for a stranger
abbrev pub number_of : Terms → List ℕ → ℕ
number_of terms name = number_among name (names_of terms.bidders)

-- none of the names is this one
abbrev pub is_stranger : List ℕ → List (List ℕ) → Bool
is_stranger name names = not (list_any (bytes_eq name) names)
