-- A text of one part.
use Rattle.std.proofs.Common.{◌≡◌, ◌∙◌, ℕ, List, [], ◌∷◌, ◌++◌, get_or, length, sym, ap, arith, append-nil}
use Rattle.cert_output.specs.declared.part.Part.{Part}
use Rattle.cert_output.specs.declared.part.Part.TheVariants.{Bytes}
use Rattle.cert_output.specs.TextParts.{all_bytes, part_bytes}

-- its bytes are those of the part
pub only-part : (parts : List Part) (part : Part) (text : List ℕ) → length parts ≡ 1 → part ≡ get_or parts 0 part → part ≡ Bytes text
    → text ≡ all_bytes parts
only-part [] part text one first is = absurd (omega (arith, one))
only-part (p ∷ []) part text one first is =
    sym (append-nil text) ∙ ap (λ (q : Part). part_bytes q ++ []) (sym is ∙ first)
only-part (p ∷ q ∷ parts) part text one first is = absurd (omega (arith, one))
