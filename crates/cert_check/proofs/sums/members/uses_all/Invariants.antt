use Rattle.std.proofs.Common.{ℕ, ◌<◌, IsTrue, get_or}
use Rattle.auction_model.specs.Market.{uses}
use Rattle.cert_check.proofs.sums.members.uses_all.Given as goal

abbrev pub invariant-loop-member : goal.invariant-loop-member
invariant-loop-member l = (k : ℕ) → k < l.member-index → IsTrue (uses l.choice (get_or l.members k 0))
