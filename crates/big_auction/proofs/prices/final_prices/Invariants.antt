use Rattle.std.proofs.Common.{◌≡◌, map}
use Rattle.auction_rules.specs.Rounds.{prices_after}
use Rattle.big_auction.specs.MadeAward.{made_terms}
use Rattle.big_auction.specs.Parts.{counts_of, figures_of, held_from}
use Rattle.big_auction.proofs.prices.final_prices.Given as goal

abbrev pub invariant-loop-round : goal.invariant-loop-round
invariant-loop-round l = figures_of l.prices ≡ prices_after made_terms (held_from (map counts_of l.packages)) l._round
