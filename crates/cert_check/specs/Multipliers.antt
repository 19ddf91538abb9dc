-- The multipliers of a row.
use Rattle.std.specs.Prelude.{ℤ}
use Rattle.cert_grammar.specs.Certificate.{RowValue}
use Rattle.cert_check.specs.declared.sums.Multiplier.{Multiplier}
use Rattle.cert_check.specs.declared.sums.Multiplier.TheVariants.{First, Second}

abbrev pub multiplier_of : Multiplier → RowValue → ℤ
multiplier_of First row = row.first
multiplier_of Second row = row.second
