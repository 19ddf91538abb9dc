use Rattle.std.proofs.Common.{◌≡◌, ◌∙◌, ℤ, ap, arith, bit_and}
use Rattle.std.proofs.lemmas.Int.{to_z_pos}
use Rattle.std.proofs.lemmas.Nat.{and_mask}
use mir.Val.{to_z, of_z}
use mir.Syntax.{w64}
use Rattle.table_check.proofs.lines.last_bits.Goals as goal

pub returns : goal.returns
returns c = λ small.
    let bits = c.args.bits in
    let all : bit_and bits 18446744073709551615 ≡ bits = and_mask bits 64 ∙ omega (arith, small) in
    let size = to_z_pos w64 bits (omega (arith, small)) in
    ap (λ (z : ℤ). to_z w64 (of_z w64 z)) (c.cast_signed.ensures ∙ ap (to_z w64) all ∙ size) ∙ size
