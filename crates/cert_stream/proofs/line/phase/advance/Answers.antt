use Rattle.std.proofs.Common.{subst}
use Rattle.cert_stream.specs.declared.line.phase.Phase.{Phase}
use Rattle.cert_stream.specs.Partway.{Partway}
use Rattle.cert_stream.proofs.line.phase.advance.Goals as goal

pub returns-in-Digits : goal.returns-in-Digits
returns-in-Digits c = λ ns bytes at. c.digit_step.ensures c.args.word.now ns bytes (subst (λ (p : Phase). Partway c.args.word.now ns p bytes) c.in-Digits.is at)
