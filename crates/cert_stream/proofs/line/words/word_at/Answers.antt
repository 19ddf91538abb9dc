use Rattle.std.proofs.Common.{take, drop}
use Rattle.std.proofs.lemmas.Simd.{length-chunk}
use Rattle.cert_stream.proofs.DigitWords.{word_lane}
use Rattle.cert_stream.proofs.line.words.word_at.Goals as goal

pub returns : goal.returns
returns c = word_lane (take 8 (drop c.args.at c.args.piece.now)) (length-chunk c.args.at 8 c.args.piece.now c.requires)
