-- The first place of a line where a rule fails.
use Rattle.std.specs.Prelude.{◌≡◌, ℕ, ◌+◌, ◌-◌, ◌≤◌, ◌<◌, IsTrue, List, ◌+ℤ◌, ◌≤ℤ◌}
use Rattle.auction_model.specs.Package.{is_within}
use Rattle.auction_model.specs.Place.{left_at, states_of}
use Rattle.wide_num.specs.Sums.{nth}
use Rattle.table_check.specs.declared.rule.LineRule.{LineRule}

-- r is the first number below `stop` where P fails, or `stop` if there is none
pub record FirstFault (P : ℕ → Type 0) (stop r : ℕ) : Type 0 where
  pub within : r ≤ stop
  pub before : (s : ℕ) → s < r → P s
  pub fails : r < stop → P r → ⊥

-- the rule at a place
abbrev pub Covers : LineRule → ℕ → Type 0
Covers rule s = (rule.worth +ℤ nth rule.below.now (s - rule.shift)) ≤ℤ nth rule.line.now s

-- the rule at the places start to stop - 1
abbrev pub CoversRun : LineRule → ℕ → ℕ → ℕ → Type 0
CoversRun rule start stop s = start ≤ s → s < stop → Covers rule s

-- the rule at those of the first `some` places of a block where the package fits
abbrev pub CoversSome : LineRule → ℕ → List ℕ → List ℕ → ℕ → ℕ → Type 0
CoversSome rule base supply lots some s = (n : ℕ) → n < some → s ≡ base + n
    → IsTrue (is_within lots (left_at supply n)) → Covers rule s

-- at all places of the block: it has one for each state of these categories
abbrev pub CoversBlock : LineRule → ℕ → List ℕ → List ℕ → ℕ → Type 0
CoversBlock rule base supply lots s = CoversSome rule base supply lots (states_of supply) s
