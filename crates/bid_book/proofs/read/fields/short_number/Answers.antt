use Rattle.std.proofs.Common.{arith}
use Rattle.bid_book.proofs.FieldReads.{short_found}
use Rattle.bid_book.proofs.read.fields.short_number.Goals as goal

pub returns : goal.returns
returns c =
    let n = c.in_ok-number.number in
    let small = c.if-number-gt-MOST_AMOUNT.false in (
      omega (arith, small),
      short_found c.args.text.now c.in_ok-rest.rest.now n c.in_ok-number.stop c.in_ok-rest.ensures.found c.in_ok-number.ensures.found (omega (arith, small)),
    )
