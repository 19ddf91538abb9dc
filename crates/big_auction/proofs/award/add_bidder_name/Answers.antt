use Rattle.big_auction.proofs.Pieces.{bidder-name}
use Rattle.big_auction.proofs.award.add_bidder_name.Goals as goal

pub returns : goal.returns
returns c = bidder-name c.args.bidder c.args.text.now c.add.new.self c.add_decimal.new.text c.add-2.new.self c.in_ok-add.ensures c.in_ok-add_decimal.ensures
    c.in_ok-add-2.ensures
