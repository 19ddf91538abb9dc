-- The fields of a record of csv.
use Rattle.std.proofs.Common.{Bor, ◌≡◌, ℕ, zero, suc, ◌<◌, Option, Some, None, List, [], ◌∷◌, length, refl, sym, subst, arith}
use Rattle.std.specs.Prelude.{IsSome, option_map}
use Rattle.std.proofs.lemmas.Option.{same_Some}
use Rattle.csv.specs.Records.{field_at}
use Rattle.log_file.specs.LogForm.{four}

-- the four fields of a record
pub four_are : (fs : List (List ℕ)) (a b c d : List ℕ) → length fs ≡ 4 → field_at fs 0 ≡ Some a → field_at fs 1 ≡ Some b → field_at fs 2 ≡ Some c
    → field_at fs 3 ≡ Some d → fs ≡ four a b c d
unfolding field_at
four_are (x ∷ y ∷ z ∷ w ∷ []) a b c d four isa isb isc isd = cc (same_Some _ _ isa, same_Some _ _ isb, same_Some _ _ isc, same_Some _ _ isd)
four_are [] a b c d four isa isb isc isd = absurd (omega (arith, four))
four_are (x ∷ []) a b c d four isa isb isc isd = absurd (omega (arith, four))
four_are (x ∷ y ∷ []) a b c d four isa isb isc isd = absurd (omega (arith, four))
four_are (x ∷ y ∷ z ∷ []) a b c d four isa isb isc isd = absurd (omega (arith, four))
four_are (x ∷ y ∷ z ∷ w ∷ v ∷ fs) a b c d four isa isb isc isd = absurd (omega (arith, four))

-- there is a field at each place below their number
has_field : (fs : List (List ℕ)) (i : ℕ) → i < length fs → IsSome (field_at fs i)
unfolding field_at
has_field [] i low = absurd (omega (arith, low))
has_field (f ∷ fs) zero low = refl
has_field (f ∷ fs) (suc i) low = has_field fs i (omega (arith, low))

-- a look-up at a place below the number of fields finds a field
pub found_field : (o : Option (Bor (List ℕ))) (fs : List (List ℕ)) (i : ℕ) → option_map (λ (s : Bor (List ℕ)). s.now) o ≡ field_at fs i → i < length fs
    → IsSome o
found_field None fs i is low = subst IsSome (sym is) (has_field fs i low)
found_field (Some s) fs i is low = refl
