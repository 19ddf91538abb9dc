-- The rows that are kept, with their pairs of multipliers.
use Rattle.std.specs.Prelude.{◌≡◌, ◌≢◌, ℕ, Bool, not, ◌||◌, List, [], ◌∷◌, map, ℤ, pos, ◌*ℤ◌, ◌⊎◌, ⊤}
use Rattle.std.specs.Ordering.{int_eq}
use Rattle.auction_model.specs.Market.{Market}
use Rattle.far_num.specs.Members.{holds}
use Rattle.far_num.specs.declared.Row.{Row}
use Rattle.core_laws.specs.Rows.{IsGivenBy}
use Rattle.core_laws.specs.Winners.{winners_in}
use Rattle.wide_num.specs.Sums.{dot, nth}
use Rattle.core_price.specs.declared.priced.PricedRow.{PricedRow}

abbrev pub rows_in : List PricedRow → List Row
rows_in kept = map (λ r. r.row) kept

abbrev pub firsts : List PricedRow → List ℤ
firsts kept = map (λ r. r.first) kept

abbrev pub seconds : List PricedRow → List ℤ
seconds kept = map (λ r. r.second) kept

-- a row that is kept: its choice determines it, the point is tight there, and its multipliers aren't
-- both 0
pub record IsKept (m : Market) (z : List ℕ) (den : ℤ) (at : List ℤ) (r : PricedRow) : Type 0 where
  pub given : IsGivenBy m z r.row r.choice
  pub tight : dot (winners_in z) (holds r.row.members) (nth at) ≡ den *ℤ r.row.bound
  pub used : (r.first ≢ pos 0) ⊎ (r.second ≢ pos 0)

-- The kept rows are among these rows with their choices, and are in their order.
abbrev pub AreAmong : List Row → List (List ℕ) → List PricedRow → Type 0
AreAmong rows choices [] = ⊤
AreAmong [] choices (r ∷ kept) = ⊥
AreAmong (row ∷ rows) [] (r ∷ kept) = ⊥
AreAmong (row ∷ rows) (c ∷ choices) (r ∷ kept) = ((r.row ≡ row) × (r.choice ≡ c) × AreAmong rows choices kept)
    ⊎ AreAmong rows choices (r ∷ kept)

-- the rows with their choices and pairs of multipliers
abbrev pub with_pairs : List Row → List (List ℕ) → List ℤ → List ℤ → List PricedRow
with_pairs (row ∷ rows) (c ∷ choices) (f ∷ first) (s ∷ second) = record { row = row; choice = c; first = f; second = s } ∷ with_pairs rows choices first second
with_pairs rows choices first second = []

-- the multipliers aren't both 0
abbrev pub pair_used : ℤ → ℤ → Bool
pair_used first second = not (int_eq first (pos 0)) || not (int_eq second (pos 0))

abbrev pub is_used : PricedRow → Bool
is_used r = pair_used r.first r.second
