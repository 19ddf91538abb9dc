use Rattle.std.proofs.Common.{◌≡◌, ◌<◌, get_or, length, refl, arith}
use Rattle.std.proofs.lemmas.Bool.Decides.{nat_tests}
use Rattle.line_format.proofs.Fronts.{ends_at, ends_last, space_there}
use Rattle.line_format.proofs.numbers.ends_at.Goals as goal

pub returns-then-stop-text : goal.returns-then-stop-text
returns-then-stop-text c = (λ _. ends_last c.args.text.now c.args.stop (omega (arith, c.if-stop-text.true)), λ _. refl)

pub returns : goal.returns
returns c =
    let inside : c.args.stop < length c.args.text.now = omega (arith, c.requires, c.if-stop-text.false) in (
      λ test. let space : get_or c.args.text.now c.args.stop 0 ≡ 32 = grind (arith, nat_tests, test) in ends_at c.args.text.now c.args.stop inside space,
      λ ends. let space = space_there c.args.text.now c.args.stop inside ends in grind (arith, nat_tests, space),
    )
