use Rattle.std.proofs.Common.{◌<◌, length, ap, arith}
use Rattle.weights_file.proofs.Reading.{weighs-next}
use Rattle.weights_file.proofs.read.take_listed.Goals as goal

pub returns-then-items-bidders-clause-form : goal.returns-then-items-bidders-clause-form
returns-then-items-bidders-clause-form c = λ err t step.
    let lt : length c.args.weights < length c.args.book.now.bidders = omega (
      arith,
      c.if-items-bidders.true,
      ap length c.items.ensures,
      c.bidders.ensures.bidders,
    ) in
    c.take_weight.ensures.form err t (weighs-next c.args.book.now c.args.weights c.args.line.now t lt step)
