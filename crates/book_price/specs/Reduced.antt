-- Certificates in lowest terms.
use Rattle.std.specs.Prelude.{◌≢◌, ◌⊎◌, ◌≤◌, length, map, pos}
use Rattle.std.specs.List.{AllByRecursion}
use Rattle.cert_grammar.specs.Certificate.{CertValue, RowValue}
use Rattle.core_price.specs.Lowest.{IsLowest}
use Rattle.core_laws.specs.Winners.{winners_in}

-- its multipliers aren't both 0
abbrev pub IsUsed : RowValue → Type 0
IsUsed r = (r.first ≢ pos 0) ⊎ (r.second ≢ pos 0)

-- Nothing but 1 divides the denominator, all payments and all multipliers. There are no more rows than winners, and each is used.
pub record IsReduced (c : CertValue) : Type 0 where
  pub lowest : IsLowest c.den c.pay (map (λ r. r.first) c.rows) (map (λ r. r.second) c.rows)
  pub few : length c.rows ≤ winners_in c.choice
  pub used : AllByRecursion IsUsed c.rows
