use Rattle.std.proofs.Common.{ℕ, arith, subst, sym}
use Rattle.std.proofs.Math.Nat.{one-dvd}
use Rattle.std.specs.Int.{IsGcd}
use Rattle.std.proofs.lemmas.Nat.Gcd.{IsGcd-from_mod, IsGcd-from_zero, dvd_refl}
use Rattle.wide_num.proofs.arithmetic.euclid.Goals as goal

pub loop-y-preserved : goal.loop-y-preserved
loop-y-preserved c = record {
  kept = λ g h. c.loop-y.invariant.kept g (IsGcd-from_mod c.loop-y.x c.loop-y.y g h);
  x_in = omega arith;
  y_in = omega arith;
}

pub returns-then-a-eq1-clause-greatest : goal.returns-then-a-eq1-clause-greatest
returns-then-a-eq1-clause-greatest c =
    subst (λ (a : ℕ). IsGcd a c.args.b 1) (sym c.if-a-eq1.true) (dvd_refl 1, one-dvd c.args.b, λ d left right. left)

pub returns-clause-greatest : goal.returns-clause-greatest
returns-clause-greatest c = c.loop-y.invariant.kept c.loop-y.x (IsGcd-from_zero c.loop-y.x c.loop-y.y (omega arith))
