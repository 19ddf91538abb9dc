use Rattle.std.proofs.Common.{◌+◌, ◌*◌, ◌/◌, ◌%◌, ◌^◌, refl}
use Rattle.cert_stream.proofs.DigitWords.{pairs_of}
use Rattle.cert_stream.proofs.line.words.digit_pairs.Goals as goal

pub returns : goal.returns
returns t = λ a b c d e f g h are.
    let digits = t.args.digits in
    let tens = digits * 10 % 2 ^ 64 in
    pairs_of digits tens ((tens + digits / 2 ^ 8) % 2 ^ 64) a b c d e f g h are refl refl
