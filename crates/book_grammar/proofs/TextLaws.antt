-- Texts that are put together piece by piece.
use Rattle.std.specs.Prelude.{◌≡◌, ℕ, List, [], ◌∷◌, ◌++◌, refl}
use Rattle.std.proofs.Common.{sym, ◌∙◌, ap, append_assoc}
use Rattle.std.proofs.lemmas.List.{append-nil}
use Rattle.std.specs.Fmt.{decimal}
use Rattle.line_format.specs.Decimals.{decimals_text}

-- the text of two lists of numbers in a row is the text of the first and then that of the second
pub numbers-append : (ms ns : List ℕ) → decimals_text (ms ++ ns) ≡ decimals_text ms ++ decimals_text ns
numbers-append [] ns = refl
numbers-append (m ∷ ms) ns = ap (λ (l : List ℕ). 32 ∷ decimal m ++ l) (numbers-append ms ns)
    ∙ sym (append_assoc (32 ∷ decimal m) (decimals_text ms) (decimals_text ns))

-- one number more
pub numbers-push : (ns : List ℕ) (n : ℕ) → decimals_text (ns ++ n ∷ []) ≡ decimals_text ns ++ 32 ∷ decimal n
numbers-push ns n = numbers-append ns (n ∷ []) ∙ ap (λ (l : List ℕ). decimals_text ns ++ l) (append-nil (32 ∷ decimal n))
