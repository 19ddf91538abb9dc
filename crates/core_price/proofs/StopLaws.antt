-- If memory runs out, few enough win.
use Rattle.std.specs.Prelude.{◌≡◌, ℕ, List, Result, Ok, Err, IfErr, IsErrAnd}
use Rattle.std.proofs.Common.{subst, sym}
use Rattle.core_price.specs.Stops.{IsStop}
use Rattle.core_laws.specs.Weights.{FewWin}
use Rattle.core_price.specs.declared.priced.PriceStop.{PriceStop}
use Rattle.core_price.specs.declared.priced.PriceStop.TheVariants.{Memory}

-- if few enough win, out of memory is why there are no prices
pub memory-stop : {T : Type 0} (r : Result T PriceStop) (z weights : List ℕ) → IsErrAnd r (λ e. e ≡ Memory) → FewWin z weights
    → IfErr r (λ e. IsStop z weights e)
memory-stop (Ok x) z weights h few = tt
memory-stop (Err e) z weights h few = subst (λ s. IsStop z weights s) (sym h) few
