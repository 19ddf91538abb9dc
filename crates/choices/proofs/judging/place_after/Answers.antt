use Rattle.std.proofs.Common.{sym}
use Rattle.auction_model.proofs.PackageLaws.{less-empty}
use Rattle.auction_model.proofs.PlaceLaws.{place_of-left_at}
use Rattle.choices.proofs.judging.place_after.Goals as goal

-- number 0 takes nothing
pub returns-then-i-eq0-clause-left : goal.returns-then-i-eq0-clause-left
returns-then-i-eq0-clause-left c =
    rw (c.if-i-eq0.true, less-empty) (sym (place_of-left_at c.args.book.now.supply c.args.place c.requires.place))
