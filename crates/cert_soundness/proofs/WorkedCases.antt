-- Certificates whose sizes fail: a denominator of 0, a value below 0, and a product that leaves the range.
use Rattle.std.proofs.Common.{[], refl, arith}
use Rattle.std.specs.Prelude.{ℤ, pos, negsuc, ◌^◌, ◌-◌}
use Rattle.std.proofs.lemmas.Int.{ints}
use Rattle.cert_grammar.specs.Certificate.{CertValue}
use Rattle.cert_soundness.specs.Tests.{C1}

abbrev with_sizes : ℤ → ℤ → CertValue
with_sizes den value = record { den = den; value = value; choice = []; table = []; withouts = []; pay = []; rows = []; lowered = [] }

no_denominator : C1 (with_sizes (pos 0) (pos 0)) 1 → ⊥
no_denominator h = let d = h.den refl in omega (arith, ints, d)

value_below_0 : C1 (with_sizes (pos 1) (negsuc 0)) 2 → ⊥
value_below_0 h = let v = h.value refl in omega (arith, ints, v)

product_out_of_range : C1 (with_sizes (pos 2) (pos (2 ^ 119 - 1))) 3 → ⊥
product_out_of_range h = let s = h.size refl in omega (arith, ints, s)
