-- The caps that are left decide.
use Rattle.std.proofs.Common.{◌≡◌, ◌+◌, drop}
use Rattle.auction_model.specs.Package.{together}
use Rattle.auction_rules.specs.Terms.{first_broken}
use Rattle.award_file.specs.Fields.{cap_values}
use Rattle.award_file.proofs.caps.first_exceeded.Given as goal

abbrev pub invariant-loop-i : goal.invariant-loop-i
invariant-loop-i l = first_broken (l.i + 1) (cap_values (drop l.i l.caps)) (together l.counts l.holding) ≡ first_broken 1 (cap_values l.caps)
    (together l.counts l.holding)
