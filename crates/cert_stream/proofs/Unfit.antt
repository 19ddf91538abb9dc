-- Lines that are none of their kind.
use Rattle.std.proofs.Common.{◌≡◌, ℕ, List, [], ◌∷◌, ◌++◌, sym, ap, subst, ◌∙◌, arith, append_assoc}
use Rattle.std.proofs.lemmas.List.{append_cancel_left}
use Rattle.std.specs.Prelude.{ℤ}
use Rattle.line_format.specs.Numeral.{numbers_text}
use Rattle.cert_grammar.specs.Lines.{FitNumbers, Numbers}
use Rattle.line_format.proofs.Numerals.{one_numbers}
use Rattle.cert_stream.specs.LineParts.{IsUnfit}
use Rattle.cert_stream.proofs.Fronts.{next_number}

module _ (word : List ℕ) (n : Numbers) (ns : List ℤ) (bytes : List ℕ) (byte : ℕ) where
  -- the last number can't be there, whatever follows
  pub unfit_number : (z : ℤ) → byte ≡ 32 → bytes ≡ word ++ numbers_text (ns ++ z ∷ []) → ((more : List ℤ) → FitNumbers n (ns ++ z ∷ more) → ⊥)
      → IsUnfit word n bytes byte
  unfit_number z space is none = record {
    ended = λ e. absurd (omega (arith, e, space));
    inside = λ e ms rest fit text.
        let e2 : numbers_text (ns ++ z ∷ []) ++ 32 ∷ rest ≡ numbers_text ms = append_cancel_left word (numbers_text (ns ++ z ∷ []) ++ 32 ∷ rest)
        (numbers_text ms)
        (sym (append_assoc word (numbers_text (ns ++ z ∷ [])) (32 ∷ rest)) ∙ ap (λ (l : List ℕ). l ++ 32 ∷ rest) (sym is)
        ∙ ap (λ (b : ℕ). bytes ++ b ∷ rest) (sym space) ∙ text) in
        let m = next_number (ns ++ z ∷ []) ms rest e2 in
        none (m.0 ∷ m.1) (subst (FitNumbers n) (m.3 ∙ append_assoc ns (z ∷ []) (m.0 ∷ m.1)) fit);
  }

  -- the whole line has other numbers
  pub unfit_whole : byte ≡ 10 → bytes ≡ word ++ numbers_text ns → (FitNumbers n ns → ⊥) → IsUnfit word n bytes byte
  unfit_whole feed is none = record {
    ended = λ e ms fit text. none (subst (FitNumbers n) (sym (one_numbers ns ms (append_cancel_left word (numbers_text ns) (numbers_text ms)
        (sym is ∙ text)))) fit);
    inside = λ e. absurd (e feed);
  }
