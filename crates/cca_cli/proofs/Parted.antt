-- Words in two parts: the names of files, and flags.
use Rattle.std.proofs.Common.{◌≡◌, ℕ, zero, suc, ◌≤◌, Bool, false, List, [], ◌∷◌, length, map, take, drop, refl, sym, ap, subst, arith, ◌-◌, ◌∙◌}
use Rattle.std.specs.Prelude.{nat_lt}
use Rattle.std.proofs.lemmas.Bool.Decides.{nat_tests}
use Rattle.std.proofs.lemmas.List.{length-drop, length-map, take_all}
use Rattle.cca_cli.specs.Command.{row, said_after, said_with}
use Rattle.cca_cli.specs.declared.kind.Kind.{Kind}

take-map : {A : Type 0} (f : A → List ℕ) (n : ℕ) (ws : List A) → take n (map f ws) ≡ map f (take n ws)
take-map f zero ws = refl
take-map f (suc n) [] = refl
take-map f (suc n) (w ∷ ws) = ap (λ (l : List (List ℕ)). f w ∷ l) (take-map f n ws)

drop-map : {A : Type 0} (f : A → List ℕ) (n : ℕ) (ws : List A) → drop n (map f ws) ≡ map f (drop n ws)
drop-map f zero ws = refl
drop-map f (suc n) [] = refl
drop-map f (suc n) (w ∷ ws) = drop-map f n ws

-- enough words say what their parts say
said-parted : {A : Type 0} (f : A → List ℕ) (kind : Kind) (number : ℕ) (ws : List A) → length (row kind).files ≤ length ws
    → said_after kind number (map f (take (length (row kind).files) ws)) (map f (drop (length (row kind).files) ws)) ≡ said_with kind number (map f ws)
said-parted f kind number ws enough =
    let within : nat_lt (length (map f ws)) (length (row kind).files) ≡ false = grind (arith, nat_tests, length-map ws f, enough) in
    rw (within, take-map f (length (row kind).files) ws, drop-map f (length (row kind).files) ws) refl

-- the same with the parts as slices have them
pub said-slices : {A : Type 0} (f : A → List ℕ) (kind : Kind) (number : ℕ) (ws : List A) (n : ℕ) → n ≡ length (row kind).files → n ≤ length ws
    → said_after kind number (map f (take n ws)) (map f (take (length ws - n) (drop n ws))) ≡ said_with kind number (map f ws)
said-slices {A} f kind number ws n is enough =
    ap (λ (rest : List A). said_after kind number (map f (take n ws)) (map f rest)) (take_all (length ws - n) (drop n ws) (omega (arith, length-drop n ws)))
    ∙ subst (λ (k : ℕ). said_after kind number (map f (take k ws)) (map f (drop k ws)) ≡ said_with kind number (map f ws)) (sym is)
    (said-parted f kind number ws (omega (arith, is, enough)))
