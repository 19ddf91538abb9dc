-- As many packages as have been made.
use Rattle.std.proofs.Common.{◌≡◌, map, ℕ}
use Rattle.std.specs.Prelude.{replicate}
use Rattle.clock_stage.proofs.rounds.empty_packages.Given as goal

abbrev pub invariant-loop : goal.invariant-loop
invariant-loop l = l.packages.items ≡ replicate l.counter (map {A = ℕ} (λ n. 0) l.supply)
