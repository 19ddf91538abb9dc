use Rattle.number_tests.proofs.TestedSystem.{system}
use Rattle.number_tests.proofs.equations.answer.Goals as goal
use Rattle.std.proofs.Common.{arith, inl, rules, ◌^◌}

pub solve-requires-clause-small : goal.solve-requires-clause-small
solve-requires-clause-small g c =
    inl (system 6 6 (2 ^ 46) c.args.size c.args.entries.now c.args.right.now c.in_ok-matrix.matrix (omega arith) (search rules) (search rules)
    (c.are_small.ensures (search rules)) (c.have_small_parts.ensures (search rules)) c.in_ok-matrix.ensures.long c.in_ok-matrix.ensures.entries)
