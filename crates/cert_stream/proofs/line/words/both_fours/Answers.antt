use Rattle.cert_stream.proofs.DigitWords.{both_of}
use Rattle.cert_stream.proofs.line.words.both_fours.Goals as goal

pub returns-clause-spelled : goal.returns-clause-spelled
returns-clause-spelled t = λ a b are. both_of t.args.fours a b are
