use Rattle.std.proofs.Common.{◌≡◌, ◌++◌}
use Rattle.std.specs.Prelude.{flat_map}
use Rattle.auction_rules.specs.Rounds.{listing}
use Rattle.big_auction.specs.AwardText.{entrant_text}
use Rattle.big_auction.specs.MadeAward.{made_entrant}
use Rattle.big_auction.proofs.award.add_entrants.Given as goal

abbrev pub invariant-loop-k : goal.invariant-loop-k
invariant-loop-k l = l.text ≡ l.initial.text ++ flat_map entrant_text (listing made_entrant l.k)
