use Rattle.std.proofs.Common.{◌≡◌, ◌∙◌, ◌<◌, ◌^◌, ◌∷◌, ◌++◌, List, ℕ, ℤ, ap, arith, drop, pos, rules, sym}
use Rattle.std.specs.Fmt.{signed_decimal}
use Rattle.std.specs.Int.{w128}
use Rattle.std.proofs.lemmas.Int.{to_z-of_z}
use Rattle.line_format.specs.Numeral.{signed_numeral}
use Rattle.line_format.proofs.Decimals.{decimal_numeral, signed_decimal_numeral}
use Rattle.cert_output.proofs.spelling.put_number.Goals as goal

pub returns-in-Ok-clause-field : goal.returns-in-Ok-clause-field
returns-in-Ok-clause-field c =
    let is : c.args.number ≡ pos c.in-Ok.natural = search rules in
    let small : c.in-Ok.natural < 2 ^ 64 = search rules in
    c.put_natural.ensures.field
    ∙ ap (λ (t : List ℕ). 32 ∷ t ++ drop c.args.end c.args.room.now) (decimal_numeral c.in-Ok.natural (omega (arith, small)))
    ∙ ap (λ (z : ℤ). 32 ∷ signed_numeral z ++ drop c.args.end c.args.room.now) (sym is)

pub returns-in-Err-clause-field : goal.returns-in-Err-clause-field
returns-in-Err-clause-field c =
    c.put_signed.ensures.field
    ∙ ap (λ (z : ℤ). 32 ∷ signed_decimal z ++ drop c.args.end c.args.room.now) (to_z-of_z w128 c.args.number c.ranges.number)
    ∙ ap (λ (t : List ℕ). 32 ∷ t ++ drop c.args.end c.args.room.now) (signed_decimal_numeral c.args.number (omega (arith, c.requires.range)))
