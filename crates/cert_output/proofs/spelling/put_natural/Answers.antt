use Rattle.std.proofs.Common.{◌≡◌, ◌+◌, ◌-◌, arith}
use Rattle.std.proofs.lemmas.Fmt.{length-decimal-le}
use Rattle.std.proofs.lemmas.List.{drop-set}
use Rattle.cert_output.proofs.spelling.put_natural.Goals as goal

pub write_digits-start-requires : goal.write_digits-start-requires
write_digits-start-requires c = (omega (arith, c.requires, length-decimal-le 20 c.args.number (omega arith) (omega arith) (omega arith)), c.requires.1)

pub overflow_sub-start : goal.overflow_sub-start
overflow_sub-start c = omega (arith, length-decimal-le 20 c.args.number (omega arith) (omega arith) (omega arith))

pub returns-clause-start : goal.returns-clause-start
returns-clause-start c =
    let long = length-decimal-le 20 c.args.number (omega arith) (omega arith) (omega arith) in
    (omega (arith, long), omega (arith, long))

pub returns-clause-field : goal.returns-clause-field
returns-clause-field c =
    let w = c.write_digits-start in
    let long = length-decimal-le 20 c.args.number (omega arith) (omega arith) (omega arith) in
    let next : w.result - 1 + 1 ≡ w.result = omega (arith, long) in
    rw (drop-set w.new.buf (w.result - 1) 32 (omega (arith, long)), next, w.ensures.written)
