use Rattle.std.proofs.Common.{get_or, arith}
use Rattle.std.proofs.lemmas.List.{get_or_default}
use Rattle.bid_book.proofs.SettleLaws.{settled-none, settled-more, settled-all}
use Rattle.bid_book.proofs.book.changes.settle.Goals as goal

pub loop-i-init : goal.loop-i-init
loop-i-init c = settled-none c.args.bids.now

pub loop-i-preserved : goal.loop-i-preserved
loop-i-preserved c =
    let bids = c.loop-i.bids in
    let i = c.loop-i.i in
    let e = get_or bids i c.index-bids-i-in-loop-i.result in
    let is = get_or_default bids i c.index-bids-i-in-loop-i.result e (omega arith) in
    settled-more c.args.bids.now bids i c.better_at-better.result e (omega arith) is c.loop-i.invariant (c.better_at-better.ensures e is)

pub returns : goal.returns
returns c = settled-all c.args.bids.now c.loop-i.bids c.loop-i.i (omega arith) c.loop-i.invariant
