use Rattle.std.proofs.Common.{◌≡◌, ℕ, ◌<◌, get_or}
use Rattle.auction_model.specs.Market.{number_of}
use Rattle.cert_check.proofs.sums.members.uses_none.Given as goal

abbrev pub invariant-loop-member : goal.invariant-loop-member
invariant-loop-member l = (k : ℕ) → k < l.member-index → number_of l.choice (get_or l.members k 0) ≡ 0
