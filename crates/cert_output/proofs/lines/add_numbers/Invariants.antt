use Rattle.std.proofs.Common.{◌≡◌, ◌≤◌, ◌-◌, drop, length, take}
use Rattle.choices.specs.LentLines.{numbers_of}
use Rattle.line_format.specs.Numeral.{numbers_text}
use Rattle.cert_output.proofs.Waiting.{IsSoFar}
use Rattle.cert_output.proofs.lines.add_numbers.Given as goal

abbrev pub invariant-loop-done : goal.invariant-loop-done
invariant-loop-done g l = record {
  so_far : IsSoFar l.name (g.F.Files.folder l.initial.files) (g.F.Files.folder l.files) (take l.initial.waiting l.initial.room) l.room l.waiting
      (numbers_text (drop l.done (numbers_of l.numbers))) (numbers_text (numbers_of l.numbers));
  inside : l.done ≤ l.count;
  count : l.count ≡ length (numbers_of l.numbers);
}

abbrev pub decreases-loop-done : goal.decreases-loop-done
decreases-loop-done g l = l.count - l.done
