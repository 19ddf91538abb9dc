use Rattle.cert_stream.proofs.Following.{none_next}
use Rattle.cert_stream.proofs.line.numbers.none_follows.Goals as goal

pub returns : goal.returns
returns c = λ ns z beyond keeps begins kept. (λ yes. cc yes, λ next. absurd (none_next ns z next))
