-- The first of six zeros.
use Rattle.std.proofs.Common.{◌≡◌, ◌≤◌, ◌∙◌, length, sym, take, rules}
use Rattle.std.specs.Prelude.{replicate}
use Rattle.std.proofs.lemmas.List.{take-replicate}
use Rattle.clock_stage.proofs.Demands.{zeros-replicate}
use Rattle.clock_stage.proofs.rounds.empty_package.Goals as goal

pub returns : goal.returns
returns c =
    let supply = c.args.supply.now in
    let few : length supply ≤ 6 = search rules in
    let zeros : c.of_counts.result ≡ take (length supply) (replicate 6 0) = search rules in
    zeros ∙ take-replicate (length supply) 6 0 few ∙ sym (zeros-replicate supply)
