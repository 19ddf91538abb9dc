-- The quotient, rounded up and at least 1, is the least number of ticks, by the share of the greatest threshold that is reached.
use Rattle.std.proofs.Common.{◌≡◌, ℕ, ◌+◌, ◌*◌, refl, sym, ◌∙◌, ap, arith, rules}
use Rattle.auction_rules.specs.Step.{permille_at, ticks_of}
use Rattle.auction_rules.proofs.Steps.{ticks_of-code}
use Rattle.clock_stage.proofs.RaisedLaws.{raised-price}
use Rattle.clock_stage.proofs.steps.step.Goals as goal

pub returns-clause-price : goal.returns-clause-price
returns-clause-price c =
    let tick : c.tick-tick.result ≡ c.args.table.now.tick = search rules in
    let permille : c.permille_of-permille.result ≡ permille_at c.args.table.now.thresholds c.args.excess = search rules in
    let is : ticks_of c.tick-tick.result c.args.price c.permille_of-permille.result ≡ c.max.result =
    ticks_of-code c.tick-tick.result c.args.price c.permille_of-permille.result _ (omega arith) refl ∙ (omega (arith, c.max.ensures)) in
    ap (λ (k : ℕ). c.args.price + k * c.tick-tick.result) (sym is)
    ∙ ap (λ (t : ℕ). c.args.price + ticks_of t c.args.price c.permille_of-permille.result * t) tick
    ∙ ap (λ (m : ℕ). c.args.price + ticks_of c.args.table.now.tick c.args.price m * c.args.table.now.tick) permille

pub returns-clause-least : goal.returns-clause-least
returns-clause-least c = λ some.
    raised-price c.args.table.now c.args.price c.args.excess _ c.greatest_threshold.ensures c.raise_is_least.ensures.least c.tick-tick.ensures.kept some
    (returns-clause-price c)
