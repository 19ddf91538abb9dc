use Rattle.std.proofs.Common.{◌≡◌, Bool, Err, IfOk, List, Ok, OnErr, Result, [], drop, false, map, string_bytes, subst, true, ℕ}
use Rattle.std.specs.Vec.Iter.{into_iter_items}
use Rattle.cca_base.specs.Barred.{IsFree, IsFreeOfSome}
use Rattle.cca_base.specs.Made.{Made}
use Rattle.cca_base.proofs.system.system_output.SystemOutput.new.Goals as goal

-- of the words that are known, or of none
free : {A E : Type 0} (r : Result A E) (names : A → List (List ℕ)) (is_barred : Bool) (old new : List Made)
    → IfOk r (λ all. is_barred ≡ false → IsFree (names all) true old new) → OnErr r (is_barred ≡ false → IsFree [] false old new)
    → is_barred ≡ false → IsFreeOfSome old new
free (Ok all) names is_barred old new known unknown off = (names all, true, known off)
free (Err e) names is_barred old new known unknown off = ([], false, unknown off)

pub returns-clause-free : goal.returns-clause-free
returns-clause-free g c = λ off.
    subst (λ (old : List Made). IsFreeOfSome old c.is_barred.new.system.events.made) c.new-system.ensures
    (free c.words-words.result (λ all. drop 2 (map string_bytes (into_iter_items all))) c.is_barred.result c.new-system.result.events.made
    c.is_barred.new.system.events.made c.is_barred.ensures.known c.is_barred.ensures.unknown off)
