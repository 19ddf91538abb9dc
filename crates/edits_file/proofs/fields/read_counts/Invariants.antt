use Rattle.std.proofs.Common.{◌≡◌, length, take}
use Rattle.edits_file.specs.Stages.{BeginsWithCounts}
use Rattle.edits_file.proofs.fields.read_counts.Given as goal

abbrev pub invariant-loop-i : goal.invariant-loop-i
invariant-loop-i l = record {
  room : length l.counts ≡ 6;
  front : BeginsWithCounts l.i l.text (take l.i l.counts) l.rest;
}
