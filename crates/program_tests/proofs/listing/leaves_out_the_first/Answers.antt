use Rattle.std.proofs.Common.{◌≡◌, ℕ, zero, suc, List, [], ◌∷◌, get_or, ℤ, pos, refl}
use Rattle.value_table.proofs.Plain.{plain-range}
use Rattle.program_tests.proofs.listing.leaves_out_the_first.Goals as goal

no_surplus : (k : ℕ) → get_or (pos 0 ∷ pos 0 ∷ pos 0 ∷ pos 0 ∷ pos 0 ∷ []) k (pos 0) ≡ pos 0
no_surplus zero = refl
no_surplus (suc zero) = refl
no_surplus (suc (suc zero)) = refl
no_surplus (suc (suc (suc zero))) = refl
no_surplus (suc (suc (suc (suc zero)))) = refl
no_surplus (suc (suc (suc (suc (suc k))))) = refl

pub build-requires-clause-range : goal.build-requires-clause-range
build-requires-clause-range g c = plain-range c.args.book.now 1 (pos 0 ∷ pos 0 ∷ pos 0 ∷ pos 0 ∷ pos 0 ∷ []) c.bidders.ensures.kept no_surplus
