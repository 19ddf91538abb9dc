-- The line of a winner, put together piece by piece.
use Rattle.std.specs.Prelude.{◌≡◌, ℕ, List, [], ◌∷◌, ◌++◌, codes}
use Rattle.std.proofs.Common.{sym, ◌∙◌, ap, append_assoc}
use Rattle.std.proofs.lemmas.List.{append-nil}
use Rattle.std.specs.Fmt.{decimal}
use Rattle.line_format.specs.Decimals.{decimals_text}
use Rattle.book_grammar.proofs.TextLaws.{numbers-append}
use Rattle.print_grammar.specs.WinText.{winner_line}

regroup : (t w n l a e : List ℕ) → ((((t ++ w) ++ n) ++ l) ++ a) ++ e ≡ t ++ (((w ++ n) ++ (l ++ a)) ++ e)
regroup t w n l a e = simp append_assoc

-- the line of a winner after a text
pub winner-added : (text name lots : List ℕ) (amount : ℕ)
    → ((((text ++ codes "winner ") ++ name) ++ decimals_text lots) ++ 32 ∷ decimal amount) ++ 10 ∷ [] ≡ text
    ++ winner_line name (record { lots = lots; amount = amount })
winner-added text name lots amount =
    let numbers : decimals_text (lots ++ amount ∷ []) ≡ decimals_text lots ++ 32 ∷ decimal amount = numbers-append lots (amount ∷ [])
    ∙ ap (λ (l : List ℕ). decimals_text lots ++ l) (append-nil (32 ∷ decimal amount)) in
    regroup text (codes "winner ") name (decimals_text lots) (32 ∷ decimal amount) (10 ∷ [])
    ∙ ap (λ (l : List ℕ). text ++ (((codes "winner " ++ name) ++ l) ++ 10 ∷ [])) (sym numbers)
