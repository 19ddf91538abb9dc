use Rattle.nearest_point.specs.Problem.{HasSingles}
use Rattle.nearest_point.proofs.tests.have_singles.Given as goal

abbrev pub invariant-loop-j : goal.invariant-loop-j
invariant-loop-j l = record { singles : HasSingles l.j l.rows }
