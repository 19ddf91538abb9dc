-- Natural numbers in the library's decimal digits.
use Rattle.std.specs.Prelude.{ℕ, List, [], ◌∷◌, ◌++◌}
use Rattle.std.specs.Fmt.{decimal}

-- numbers, each after one space
abbrev pub decimals_text : List ℕ → List ℕ
decimals_text [] = []
decimals_text (n ∷ ns) = 32 ∷ decimal n ++ decimals_text ns
