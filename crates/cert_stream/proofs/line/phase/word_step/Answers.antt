use Rattle.std.proofs.Common.{◌≢◌, arith}
use Rattle.std.proofs.lemmas.Bool.Decides.{nat_tests}
use Rattle.cert_stream.proofs.Steps.{word_refused}
use Rattle.cert_stream.proofs.line.phase.word_step.Goals as goal

pub returns : goal.returns
returns c = λ ns bytes at.
    let space : c.args.byte ≢ 32 = grind (arith, nat_tests) in
    let feed : c.args.byte ≢ 10 = grind (arith, nat_tests) in
    word_refused c.args.word.now ns bytes c.args.byte c.args.count c.if-count-word.false at.2 space feed
