use Rattle.std.proofs.Common.{◌≤◌, ◌-◌, length}
use Rattle.line_format.specs.Reading.{SoFar}
use Rattle.line_format.proofs.reader.read_lines.Given as goal

abbrev pub invariant-loop-len : goal.invariant-loop-len
invariant-loop-len g l = record {
  within : l.place ≤ length l.bytes;
  so_far : SoFar (g.R.LineReader.leads l.reader) (g.R.LineReader.over l.reader) l.fn.start l.bytes l.place l.stage;
}

abbrev pub decreases-loop-len : goal.decreases-loop-len
decreases-loop-len g l = length l.bytes - l.place
