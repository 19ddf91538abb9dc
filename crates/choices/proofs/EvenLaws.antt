-- Lines of equal width stay so with one more of that width.
use Rattle.std.specs.Prelude.{◌≡◌, ℕ, ◌<◌, ℤ, List, [], ◌∷◌, ◌++◌, length, get_or, refl}
use Rattle.std.proofs.Common.{◌∙◌, ap, arith, length-append, inl, inr}
use Rattle.std.proofs.lemmas.Bool.{cases_lt}
use Rattle.std.proofs.lemmas.List.{get_or_append_left, get_or_push}
use Rattle.choices.specs.Lines.{Lines, IsEven, width_of}

first-kept : (lines : Lines) (line : List ℤ) → 0 < length lines → width_of (lines ++ line ∷ []) ≡ width_of lines
first-kept [] line h = absurd (omega arith)
first-kept (l ∷ lines) line h = refl

one-even : (line : List ℤ) (k : ℕ) → k < 1 → length (get_or (line ∷ []) k []) ≡ length line
one-even line k h = let first : k ≡ 0 = omega arith in rw first refl

-- one more line of their width leaves the lines even
pub even-more : (lines : Lines) (line : List ℤ) → IsEven lines → (0 < length lines → length line ≡ width_of lines) → IsEven (lines ++ line ∷ [])
even-more [] line even same = one-even line
even-more (l ∷ lines) line even same = λ k h.
    elim (cases_lt k (length (l ∷ lines))) [
      | inl low ↦ ap length (get_or_append_left (l ∷ lines) (line ∷ []) [] k low) ∙ even k low
      | inr high ↦
          let last : length (l ∷ lines) ≡ k = omega (arith, length-append (l ∷ lines) (line ∷ [])) in
          ap length (get_or_push (l ∷ lines) line [] k last) ∙ same (omega arith)
    ]
