-- Why there are no prices.
use Rattle.std.specs.Prelude.{◌≡◌, ℕ, List}
use Rattle.core_laws.specs.Weights.{FewWin, ManyWin}
use Rattle.core_laws.specs.Winners.{winners_in}
use Rattle.core_price.specs.declared.priced.PriceStop.{PriceStop}
use Rattle.core_price.specs.declared.priced.PriceStop.TheVariants.{Winners, Memory}

-- too many win, that many; or memory is wanting, and few enough win
abbrev pub IsStop : List ℕ → List ℕ → PriceStop → Type 0
IsStop z weights (Winners n) = ManyWin z weights × (n ≡ winners_in z)
IsStop z weights Memory = FewWin z weights
