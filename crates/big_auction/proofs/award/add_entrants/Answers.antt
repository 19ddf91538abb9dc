use Rattle.big_auction.proofs.Pieces.{entrants-more}
use Rattle.big_auction.proofs.award.add_entrants.Goals as goal

pub loop-k-preserved : goal.loop-k-preserved
loop-k-preserved c =
    entrants-more c.loop-k.k c.args.text.now c.loop-k.text c.add_bidder_name.new.text c.add_number_line.new.text c.loop-k.invariant
    c.in_ok-add_bidder_name.ensures c.in_ok-add_number_line.ensures
