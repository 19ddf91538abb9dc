-- The lemma on thresholds.
use Rattle.std.proofs.Common.{◌≤◌, sym, subst, List, ℕ}
use Rattle.std.specs.List.{All}
use Rattle.award_file.proofs.StepLaws.{thresholds-most}
use Rattle.award_file.proofs.steps.StepTable.thresholds.Goals as goal

pub returns-clause-most : goal.returns-clause-most
returns-clause-most c = subst (λ (ts : List (ℕ × ℕ)). All (λ t. t.1 ≤ 1000) ts) (sym c.deref.ensures.value)
    (thresholds-most c.self.inside.thresholds.items c.self.invariant.thresholds)
