use Rattle.std.proofs.Common.{◌<◌, arith, length, get_or, map}
use Rattle.std.proofs.lemmas.List.{get_or_default}
use Rattle.big_auction.specs.declared.values.Lots.{Lots}
use Rattle.big_auction.specs.Parts.{counts_of, figures_of}
use Rattle.big_auction.proofs.MadeLines.{sealed-none, sealed-more}
use Rattle.big_auction.proofs.made.add_sealed_lines.Goals as goal

pub loop-k-init : goal.loop-k-init
loop-k-init c = sealed-none c.args.draws.now.state (figures_of c.args.prices.now) (map counts_of c.args.packages.now) c.args.text.now

pub loop-k-preserved : goal.loop-k-preserved
loop-k-preserved c =
    let none : Lots = record { a = 0; b = 0; c = 0; e = 0 } in
    let own : Lots = get_or c.args.packages.now c.loop-k.k none in
    let low : c.loop-k.k < length c.args.packages.now = omega arith in
    sealed-more c.args.draws.now.state (figures_of c.args.prices.now) c.args.packages.now c.loop-k.k c.loop-k.draws.state c.add_bidder.new.draws.state own
    (counts_of c.last_package.result)
    c.args.text.now c.loop-k.text c.add_bidder.new.text low (get_or_default c.args.packages.now c.loop-k.k none own low) c.last_package.ensures
    c.loop-k.invariant
    c.in_ok-add_bidder.ensures.text c.in_ok-add_bidder.ensures.state
