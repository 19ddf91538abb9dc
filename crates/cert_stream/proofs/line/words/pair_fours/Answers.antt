use Rattle.std.proofs.Common.{◌+◌, ◌*◌, ◌/◌, ◌%◌, ◌^◌, refl}
use Rattle.cert_stream.proofs.DigitWords.{fours_of}
use Rattle.cert_stream.proofs.line.words.pair_fours.Goals as goal

pub returns : goal.returns
returns t = λ a b c d are.
    let pairs = t.args.pairs in
    let hundreds = pairs * 100 % 2 ^ 64 in
    fours_of pairs hundreds ((hundreds + pairs / 2 ^ 16) % 2 ^ 64) a b c d are refl refl
