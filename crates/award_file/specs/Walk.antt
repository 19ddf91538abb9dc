-- The walk over the rules of an award: the first that a table breaks, and the terms of a table that breaks none.
use Rattle.std.specs.Prelude.{ℕ, ◌+◌, ◌-◌, ◌^◌, min, ◌&&◌, not, ◌==◌, Bool, true, false, if◌then◌else◌, List, [], ◌∷◌, ◌++◌, map, codes, Option, Some, None, is_some, option_and_then, unwrap_or, length, replicate, nat_le, nat_lt}
use Rattle.std.specs.Option.{option_or}
use Rattle.limits.specs.declared.TheConstants.{MOST_CAPS, MOST_CAP_LIMIT, MOST_CAP_WEIGHT, MOST_COUNT, MOST_ELIGIBILITY, MOST_EXCESS, MOST_PERMILLE}
use Rattle.limits.specs.declared.TheConstants.{MOST_POINTS, MOST_PRICE, MOST_STEPS}
use Rattle.toml.specs.Data.{Data, Members, get_member}
use Rattle.auction_rules.specs.Step.{last_or}
use Rattle.auction_rules.specs.Terms.{Terms, Entrant, SpectrumCap}
use Rattle.award_file.specs.Award.{is_stranger}
use Rattle.award_file.specs.declared.read.field_numbers.TheConstants.{BIDDERS, BIDDER_NAME, CAPS, CAP_LIMIT, CAP_WEIGHTS, CATEGORIES, CATEGORY_NAME, ELIGIBILITY, EXCESS}
use Rattle.award_file.specs.declared.read.field_numbers.TheConstants.{HOLDING, OTHER_KEY, PERMILLE, POINTS, RESERVE, STEPS, SUPPLY, TICK, VERSION}
use Rattle.award_file.specs.Stated.{number_at, row_of, name_at, tables_at, has_other}

-- a broken rule: the number of its field, and the number of the table in its list, or 0
abbrev pub Fault : Type 0
Fault = ℕ × ℕ

-- the fault of a field, unless its rule is true
abbrev pub unless : Bool → ℕ → ℕ → Option Fault
unless holds field entry = if holds then None else Some (field, entry)

-- the first of some faults
abbrev pub first_fault : List (Option Fault) → Option Fault
first_fault [] = None
first_fault (f ∷ fs) = option_or f (first_fault fs)

-- the number of the table after that many, which stops at 2^32 - 1
abbrev pub entry_after : ℕ → ℕ
entry_after done = min (done + 1) (2 ^ 32 - 1)

-- the first fault of tables, each judged after what those before it state
abbrev pub tables_fault : {A : Type 0} → (List A → Members → Option Fault) → (Members → A) → List A → List Members
    → Option Fault
tables_fault fault stated before [] = None
tables_fault fault stated before (t ∷ ts) = option_or (fault before t) (tables_fault fault stated (before ++ stated t ∷ []) ts)

-- the fault of a list: it isn't one that the field allows, or the first fault of its tables
abbrev pub list_fault : ℕ → (List Members → Option Fault) → Option (List Members) → Option Fault
list_fault field inside None = Some (field, 0)
list_fault field inside (Some ts) = inside ts

-- a name that none before it is
abbrev pub is_new : List (List ℕ) → Option (List ℕ) → Bool
is_new before None = false
is_new before (Some name) = is_stranger name before

-- the name that a table states, or none
abbrev pub name_or_none : Members → List ℕ
name_or_none t = unwrap_or (name_at t) []

-- ---- categories

-- the keys of a category
abbrev pub category_keys : List (List ℕ)
category_keys = codes "name" ∷ codes "supply" ∷ codes "points" ∷ codes "reserve" ∷ []

-- at least one lot, and no more than a text may state
abbrev pub supply_at : Members → Option ℕ
supply_at t = number_at 1 MOST_COUNT (codes "supply") t

-- points of a lot
abbrev pub points_at : Members → Option ℕ
points_at t = number_at 0 MOST_POINTS (codes "points") t

-- a reserve, at most the greatest price
abbrev pub reserve_at : Members → Option ℕ
reserve_at t = number_at 0 MOST_PRICE (codes "reserve") t

-- the first fault of a category after the categories of these names
abbrev pub category_fault : List (List ℕ) → Members → Option Fault
category_fault before t = first_fault (
    unless (is_new before (name_at t)) CATEGORY_NAME (entry_after (length before))
    ∷ unless (is_some (supply_at t)) SUPPLY (entry_after (length before))
    ∷ unless (is_some (points_at t)) POINTS (entry_after (length before))
    ∷ unless (is_some (reserve_at t)) RESERVE (entry_after (length before))
    ∷ unless (not (has_other category_keys t)) OTHER_KEY (entry_after (length before))
    ∷ [])

-- at least one category
abbrev pub categories_at : Members → Option (List Members)
categories_at t = tables_at (nat_le 1) (codes "category") t

-- the first fault of the categories
abbrev pub categories_fault : Members → Option Fault
categories_fault t = list_fault CATEGORIES (tables_fault category_fault name_or_none []) (categories_at t)

-- ---- bidders

-- the keys of a bidder
abbrev pub bidder_keys : List (List ℕ)
bidder_keys = codes "name" ∷ codes "eligibility" ∷ codes "holding" ∷ []

-- points of a bidder
abbrev pub eligibility_at : Members → Option ℕ
eligibility_at t = number_at 0 MOST_ELIGIBILITY (codes "eligibility") t

-- for each category a holding, or no lots at all if the key is missing
abbrev pub holding_in : ℕ → Option Data → Option (List ℕ)
holding_in categories None = Some (replicate categories 0)
holding_in categories (Some d) = row_of categories MOST_COUNT d

-- the holding that a table states
abbrev pub holding_at : ℕ → Members → Option (List ℕ)
holding_at categories t = holding_in categories (get_member (codes "holding") t)

-- the first fault of a bidder after the bidders of these names
abbrev pub bidder_fault : ℕ → List (List ℕ) → Members → Option Fault
bidder_fault categories before t = first_fault (
    unless (is_new before (name_at t)) BIDDER_NAME (entry_after (length before))
    ∷ unless (is_some (eligibility_at t)) ELIGIBILITY (entry_after (length before))
    ∷ unless (is_some (holding_at categories t)) HOLDING (entry_after (length before))
    ∷ unless (not (has_other bidder_keys t)) OTHER_KEY (entry_after (length before))
    ∷ [])

-- any number of bidders
abbrev pub bidders_at : Members → Option (List Members)
bidders_at t = tables_at (λ n. true) (codes "bidder") t

-- the first fault of the bidders
abbrev pub bidders_fault : ℕ → Members → Option Fault
bidders_fault categories t = list_fault BIDDERS (tables_fault (bidder_fault categories) name_or_none []) (bidders_at t)

-- ---- steps

-- the keys of a step
abbrev pub step_keys : List (List ℕ)
step_keys = codes "excess" ∷ codes "permille" ∷ []

-- an excess of at least 1
abbrev pub excess_at : Members → Option ℕ
excess_at t = number_at 1 MOST_EXCESS (codes "excess") t

-- at least one thousandth
abbrev pub permille_at : Members → Option ℕ
permille_at t = number_at 1 MOST_PERMILLE (codes "permille") t

-- the excess after these: the first is 1, and each other one is greater than that before it
abbrev pub comes_next : List ℕ → Option ℕ → Bool
comes_next before None = false
comes_next [] (Some excess) = excess == 1
comes_next (e ∷ es) (Some excess) = nat_lt (last_or e es) excess

-- the excess that a table states, or none
abbrev pub excess_or_none : Members → ℕ
excess_or_none t = unwrap_or (excess_at t) 0

-- the first fault of a step after the steps of these excesses
abbrev pub step_fault : List ℕ → Members → Option Fault
step_fault before t = first_fault (
    unless (comes_next before (excess_at t)) EXCESS (entry_after (length before))
    ∷ unless (is_some (permille_at t)) PERMILLE (entry_after (length before))
    ∷ unless (not (has_other step_keys t)) OTHER_KEY (entry_after (length before))
    ∷ [])

-- at least one step
abbrev pub steps_at : Members → Option (List Members)
steps_at t = tables_at (λ n. nat_le 1 n && nat_le n MOST_STEPS) (codes "step") t

-- the first fault of the steps
abbrev pub steps_fault : Members → Option Fault
steps_fault t = list_fault STEPS (tables_fault step_fault excess_or_none []) (steps_at t)

-- ---- caps

-- the keys of a cap
abbrev pub cap_keys : List (List ℕ)
cap_keys = codes "weight" ∷ codes "limit" ∷ []

-- for each category a weight
abbrev pub weights_at : ℕ → Members → Option (List ℕ)
weights_at categories t = option_and_then (row_of categories MOST_CAP_WEIGHT) (get_member (codes "weight") t)

-- the limit of a cap
abbrev pub limit_at : Members → Option ℕ
limit_at t = number_at 0 MOST_CAP_LIMIT (codes "limit") t

-- the limit that a table states, or none
abbrev pub limit_or_none : Members → ℕ
limit_or_none t = unwrap_or (limit_at t) 0

-- the first fault of a cap after the caps of these limits
abbrev pub cap_fault : ℕ → List ℕ → Members → Option Fault
cap_fault categories before t = first_fault (
    unless (is_some (weights_at categories t)) CAP_WEIGHTS (entry_after (length before))
    ∷ unless (is_some (limit_at t)) CAP_LIMIT (entry_after (length before))
    ∷ unless (not (has_other cap_keys t)) OTHER_KEY (entry_after (length before))
    ∷ [])

-- no more caps than are allowed
abbrev pub caps_at : Members → Option (List Members)
caps_at t = tables_at (λ n. nat_le n MOST_CAPS) (codes "cap") t

-- the first fault of the caps
abbrev pub caps_fault : ℕ → Members → Option Fault
caps_fault categories t = list_fault CAPS (tables_fault (cap_fault categories) limit_or_none []) (caps_at t)

-- ---- the whole table

-- the keys of the top
abbrev pub top_keys : List (List ℕ)
top_keys = codes "version" ∷ codes "tick" ∷ codes "category" ∷ codes "bidder" ∷ codes "step" ∷ codes "cap" ∷ []

-- the version, 1 or 2
abbrev pub version_at : Members → Option ℕ
version_at t = number_at 1 2 (codes "version") t

-- a tick of at least 1, at most the greatest price
abbrev pub tick_at : Members → Option ℕ
tick_at t = number_at 1 MOST_PRICE (codes "tick") t

-- how many categories the table states
abbrev pub category_count : Members → ℕ
category_count t = length (unwrap_or (categories_at t) [])

-- the first fault of an award
abbrev pub award_fault : Members → Option Fault
award_fault t = first_fault (
    unless (is_some (version_at t)) VERSION 0
    ∷ unless (is_some (tick_at t)) TICK 0
    ∷ categories_fault t
    ∷ bidders_fault (category_count t) t
    ∷ steps_fault t
    ∷ caps_fault (category_count t) t
    ∷ unless (not (has_other top_keys t)) OTHER_KEY 0
    ∷ [])

-- ---- what a table without a fault states

-- a category by its name, its lots, and the points and the reserve of one lot
pub record Category : Type 0 where
  pub name : List ℕ
  pub supply : ℕ
  pub points : ℕ
  pub reserve : ℕ

-- the category that a table states
abbrev pub category_of : Members → Category
category_of t = record { name = name_or_none t; supply = unwrap_or (supply_at t) 0; points = unwrap_or (points_at t) 0; reserve = unwrap_or (reserve_at t) 0 }

-- the categories of an award
abbrev pub categories_of : Members → List Category
categories_of t = map category_of (unwrap_or (categories_at t) [])

-- the bidder that a table states
abbrev pub entrant_of : ℕ → Members → Entrant
entrant_of categories t = record { name = name_or_none t; eligibility = unwrap_or (eligibility_at t) 0; holding = unwrap_or (holding_at categories t) [] }

-- the threshold that a table states
abbrev pub threshold_of : Members → ℕ × ℕ
threshold_of t = (excess_or_none t, unwrap_or (permille_at t) 0)

-- the spectrum cap that a table states
abbrev pub cap_of : ℕ → Members → SpectrumCap
cap_of categories t = record { weights = unwrap_or (weights_at categories t) []; limit = limit_or_none t }

-- the thresholds of an award
abbrev pub thresholds_of : Members → List (ℕ × ℕ)
thresholds_of t = map threshold_of (unwrap_or (steps_at t) [])

-- the spectrum caps of an award
abbrev pub caps_of : ℕ → Members → List SpectrumCap
caps_of categories t = map (cap_of categories) (unwrap_or (caps_at t) [])

-- the bidders of an award
abbrev pub entrants_of : ℕ → Members → List Entrant
entrants_of categories t = map (entrant_of categories) (unwrap_or (bidders_at t) [])

-- the terms of these parts
abbrev pub terms_from : ℕ → ℕ → List Category → List (ℕ × ℕ) → List SpectrumCap → List Entrant → Terms
terms_from version tick categories thresholds caps bidders = record {
  version = version;
  supply = map (λ c. c.supply) categories;
  points = map (λ c. c.points) categories;
  reserves = map (λ c. c.reserve) categories;
  tick = tick;
  thresholds = thresholds;
  caps = caps;
  bidders = bidders;
}

-- the terms of an award; the names of its categories have no part in them
abbrev pub terms_of : Members → Terms
terms_of t = terms_from (unwrap_or (version_at t) 0) (unwrap_or (tick_at t) 0) (categories_of t) (thresholds_of t) (caps_of (category_count t) t) (entrants_of (category_count t) t)
