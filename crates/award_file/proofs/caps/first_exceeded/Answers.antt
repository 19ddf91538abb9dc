-- Each cap of the list is a rule.
use Rattle.std.proofs.Common.{length, sym, ap, ◌∙◌, subst, arith}
use Rattle.std.specs.Prelude.{All, List, ℕ, ◌≤◌}
use Rattle.award_file.specs.Award.{IsCap}
use Rattle.award_file.specs.Fields.{cap_value}
use Rattle.award_file.proofs.CapLaws.{cap-at}
use Rattle.award_file.proofs.caps.first_exceeded.Goals as goal

pub weight_of-requires-clause-weights : goal.weight_of-requires-clause-weights
weight_of-requires-clause-weights c =
    let rule : IsCap (length c.args.counts.now) (cap_value c.index-caps-i.result) = cap-at (length c.args.counts.now) c.args.caps.now c.loop-i.i
    c.index-caps-i.result c.requires.each (omega arith) c.index-caps-i.is in
    ap length c.deref.ensures.value ∙ rule.weights

pub weight_of-requires-clause-most : goal.weight_of-requires-clause-most
weight_of-requires-clause-most c =
    let rule : IsCap (length c.args.counts.now) (cap_value c.index-caps-i.result) = cap-at (length c.args.counts.now) c.args.caps.now c.loop-i.i
    c.index-caps-i.result c.requires.each (omega arith) c.index-caps-i.is in
    subst (λ (weights : List ℕ). All (λ w. w ≤ 1000) weights) (sym c.deref.ensures.value) rule.most_weight
