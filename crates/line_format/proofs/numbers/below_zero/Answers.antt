use Rattle.std.proofs.Common.{◌≡◌, ℕ, suc, ◌-◌, subst, arith, negsuc}
use Rattle.line_format.specs.Fields.{IsField}
use Rattle.line_format.proofs.Signs.{minus_field, minus_text, zero_field}
use Rattle.line_format.proofs.numbers.below_zero.Goals as goal

pub returns-then-n-eq0 : goal.returns-then-n-eq0
returns-then-n-eq0 c =
    let z : c.in-Within.n ≡ 0 = omega arith in
    let f : IsField c.args.rest.now 0 c.in-Within.stop = subst (λ (n : ℕ). IsField c.args.rest.now n c.in-Within.stop) z c.in-Within.ensures.0 in
    minus_text c.args.rest.now (zero_field c.args.rest.now c.in-Within.stop f)

pub returns-in-Beyond : goal.returns-in-Beyond
returns-in-Beyond c =
    let n = c.in-Beyond.ensures.0 in
    let large = c.in-Beyond.ensures.2 in
    let back : c.in-Beyond.ensures.0 ≡ suc (c.in-Beyond.ensures.0 - 1) = omega (arith, large) in (
      negsuc (c.in-Beyond.ensures.0 - 1),
      minus_field c.args.rest.now (c.in-Beyond.ensures.0 - 1) c.in-Beyond.stop
          (subst (λ (x : ℕ). IsField c.args.rest.now x c.in-Beyond.stop) back c.in-Beyond.ensures.1),
      omega (arith, large, back),
    )

pub returns-in-NoNumber : goal.returns-in-NoNumber
returns-in-NoNumber c = minus_text c.args.rest.now (λ n r ends some e. c.in-NoNumber.ensures n r ends e)
