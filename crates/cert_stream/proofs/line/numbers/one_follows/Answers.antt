use Rattle.std.proofs.Common.{arith}
use Rattle.cert_stream.proofs.Following.{one_next}
use Rattle.cert_stream.proofs.line.numbers.one_follows.Goals as goal

pub returns-then-count-gt0 : goal.returns-then-count-gt0
returns-then-count-gt0 c = λ ns z beyond keeps begins kept. (
  λ yes. cc yes,
  λ next. absurd
      (omega (arith, (one_next c.args.number ns z next).0, keeps.many, c.if-count-gt0.true)),
)
