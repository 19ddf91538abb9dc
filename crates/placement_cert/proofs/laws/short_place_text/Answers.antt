use Rattle.std.proofs.Common.{arith}
use Rattle.placement_cert.proofs.PlaceSizes.{short}
use Rattle.placement_cert.proofs.laws.short_place_text.Goals as goal

pub returns-clause-short : goal.returns-clause-short
returns-clause-short c = λ b value few is. short b few value is

pub returns-clause-within : goal.returns-clause-within
returns-clause-within c = λ b value few is. omega (arith, short b few value is)
