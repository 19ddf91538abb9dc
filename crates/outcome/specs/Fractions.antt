-- Fractions of the program.
use Rattle.std.specs.Prelude.{ℕ, List, ℤ}
use Rattle.print_grammar.specs.Fractions.{IsFraction, parts_text}
use Rattle.outcome.specs.declared.fraction.Fraction.{Fraction}

-- it is n over d
abbrev pub IsFractionOf : ℤ → ℤ → Fraction → Type 0
IsFractionOf n d f = IsFraction n d f.whole f.rest f.parts

abbrev pub fraction_text : Fraction → List ℕ
fraction_text f = parts_text f.whole f.rest f.parts
