use Rattle.cert_text.proofs.WholeText.{end_halts}
use Rattle.cert_text.proofs.read.end_at.Goals as goal

pub returns-then-place-bytes-clause-halts : goal.returns-then-place-bytes-clause-halts
returns-then-place-bytes-clause-halts c = end_halts c.args.bytes.now c.args.place c.if-place-bytes.true
