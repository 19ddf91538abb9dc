use Rattle.std.proofs.Common.{◌≡◌, pos, replicate}
use Rattle.review.specs.ReviewValue.{lines_of}
use Rattle.review.proofs.lines.zero_lines.Given as goal

abbrev pub invariant-loop-line : goal.invariant-loop-line
invariant-loop-line l = lines_of l.lines.items ≡ replicate l._line (replicate l.states (pos 0))
