use Rattle.std.proofs.lemmas.Grind.{common_steps}
use Rattle.std.proofs.Common.{refl, arith}
use Rattle.std.specs.Fmt.{decimal}
use Rattle.auction_model.proofs.ListLaws.{each-push}
use Rattle.bid_book.proofs.FieldReads.{goes_further, spelled_further}
use Rattle.bid_book.proofs.read.fields.read_naturals.Goals as goal

pub loop-rest-preserved : goal.loop-rest-preserved
loop-rest-preserved c =
    let had = c.loop-rest.numbers.items in
    let rest = c.loop-rest.rest.now in
    let number = c.in_ok-number.number in
    let more = c.in_ok-number.more.now in
    let found = c.in_ok-number.ensures.found in
    rw c.in_ok-push.ensures.items (record {
      small = each-push _ had number c.loop-rest.invariant.small found.0;
      spelled = spelled_further c.args.text.now had rest (decimal number) more number c.loop-rest.invariant.spelled found.1 refl;
      on = λ ns small spelled. goes_further had rest (decimal number) more ns number found.1 refl found.0 (c.loop-rest.invariant.on ns small spelled);
    })

pub loop-rest-smaller : goal.loop-rest-smaller
loop-rest-smaller c = grind (arith, common_steps)

pub returns-clause-ok : goal.returns-clause-ok
returns-clause-ok c = grind (arith, common_steps)
