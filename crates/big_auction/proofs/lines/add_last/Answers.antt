use Rattle.std.proofs.Common.{sym}
use Rattle.std.proofs.lemmas.Bool.{lt-leb}
use Rattle.big_auction.proofs.Drawing.{behind-none}
use Rattle.big_auction.proofs.lines.add_last.Goals as goal

pub returns-then-bidder-gt-STAYING-clause-state : goal.returns-then-bidder-gt-STAYING-clause-state
returns-then-bidder-gt-STAYING-clause-state c = rw (lt-leb c.args.bidder.now.number 4 c.if-bidder-gt-STAYING.true) (sym (behind-none c.args.draws.now.state))
