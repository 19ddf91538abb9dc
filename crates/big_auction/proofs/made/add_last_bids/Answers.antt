use Rattle.std.proofs.Common.{◌<◌, arith, length, get_or}
use Rattle.std.proofs.lemmas.List.{get_or_default}
use Rattle.big_auction.specs.declared.values.Lots.{Lots}
use Rattle.big_auction.specs.Parts.{counts_of}
use Rattle.big_auction.proofs.MadeLines.{last-more}
use Rattle.big_auction.proofs.made.add_last_bids.Goals as goal

pub loop-k-preserved : goal.loop-k-preserved
loop-k-preserved c =
    let none : Lots = record { a = 0; b = 0; c = 0; e = 0 } in
    let own : Lots = get_or c.args.packages.now c.loop-k.k none in
    let low : c.loop-k.k < length c.args.packages.now = omega (arith, c.requires, c.loop-k-test.true) in
    last-more c.args.packages.now c.loop-k.k own (counts_of c.last_package.result) c.args.text.now c.loop-k.text c.add_bid.new.text low
    (get_or_default c.args.packages.now c.loop-k.k none own low) c.last_package.ensures c.loop-k.invariant c.in_ok-add_bid.ensures
