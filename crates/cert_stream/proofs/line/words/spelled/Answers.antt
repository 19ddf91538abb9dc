use Rattle.std.proofs.Common.{◌∙◌, ◌+◌, ◌*◌}
use Rattle.cert_stream.proofs.DigitWords.{aligned}
use Rattle.cert_stream.proofs.line.words.spelled.Goals as goal

pub returns-clause-spelled : goal.returns-clause-spelled
returns-clause-spelled t = λ bytes long is digits.
    let w = aligned t.args.count bytes t.args.word t.requires.most long is digits in
    let pairs = t.digit_pairs.ensures w.a w.b w.c w.d w.e w.f w.g w.h w.digits in
    let fours = t.pair_fours.ensures (10 * w.a + w.b) (10 * w.c + w.d) (10 * w.e + w.f) (10 * w.g + w.h) pairs in
    t.both_fours.ensures.spelled (100 * (10 * w.a + w.b) + (10 * w.c + w.d)) (100 * (10 * w.e + w.f) + (10 * w.g + w.h)) fours ∙ w.value
