use Rattle.std.proofs.Common.{◌≡◌, ◌∙◌, ℕ, map, ap, arith}
use Rattle.std.specs.Prelude.{replicate}
use Rattle.clock_stage.proofs.Demands.{replicate-push}
use Rattle.clock_stage.proofs.rounds.empty_packages.Goals as goal

pub loop-preserved : goal.loop-preserved
loop-preserved c =
    replicate-push c.loop.packages.items c.push.new.self.items c.copied.result (map {A = ℕ} {B = ℕ} (λ n. 0) c.args.supply.now) c.loop.counter
    c.in_ok-push.ensures.items c.loop.invariant (c.copied.ensures ∙ c.empty_package-empty.ensures)

pub returns : goal.returns
returns c =
    let done : c.loop.counter ≡ c.args.count = omega arith in
    c.loop.invariant ∙ ap (λ (n : ℕ). replicate n (map {A = ℕ} {B = ℕ} (λ n. 0) c.args.supply.now)) done
