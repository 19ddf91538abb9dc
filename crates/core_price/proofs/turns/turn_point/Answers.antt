-- The answer of the search, divided by the greatest common divisor.
use Rattle.std.proofs.lemmas.Result.{MatchResult-weaker}
use Rattle.core_price.proofs.Division.{answer-divided}
use Rattle.core_price.proofs.turns.turn_point.Goals as goal

pub returns-clause-shown : goal.returns-clause-shown
returns-clause-shown c =
    let near = c.in_ok-near.near in
    MatchResult-weaker c.reduced.result c.reduced.ensures.same (λ p h. answer-divided c.args.prices.now c.args.weights.now c.args.rows.now h.0 p.den p.at
    p.first p.second near.den near.at near.first near.second h.1 c.in_ok-near.ensures.shown) (λ e q. q)
