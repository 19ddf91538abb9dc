-- Texts that grow piece by piece.
use Rattle.std.proofs.Common.{◌≡◌, ℕ, List, ◌++◌, ap, ◌∙◌, append_assoc}

-- after two pieces
pub regroup : (text a b c first second : List ℕ) → first ≡ text ++ a → second ≡ first ++ b → second ++ c ≡ text ++ (a ++ b ++ c)
regroup text a b c first second one two =
    ap (λ (l : List ℕ). l ++ c) (two ∙ ap (λ (l : List ℕ). l ++ b) one ∙ append_assoc text a b) ∙ append_assoc text (a ++ b) c
