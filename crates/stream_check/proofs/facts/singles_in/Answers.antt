use Rattle.std.proofs.Common.{arith}
use Rattle.cert_soundness.specs.Tests.{bidders_of, states}
use Rattle.stream_check.proofs.FactLaws.{singles-done}
use Rattle.stream_check.proofs.facts.singles_in.Goals as goal

pub returns : goal.returns
returns c = λ cert all is.
    singles-done c.args.book.now cert (bidders_of c.args.book.now) (states c.args.book.now) all.of.certificate c.args.choice.now is c.loop-k.singles
    c.loop-k.k (omega (arith, c.loop-k-test.false)) (c.loop-k.invariant cert all is)
