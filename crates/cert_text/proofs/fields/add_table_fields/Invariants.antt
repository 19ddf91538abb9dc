use Rattle.std.proofs.Common.{◌≡◌, ◌≤◌, ◌-◌, ◌++◌, [], drop, length}
use Rattle.std.specs.Prelude.{slice_index_or}
use Rattle.line_format.specs.Numeral.{numbers_text}
use Rattle.cert_text.proofs.fields.add_table_fields.Given as goal

abbrev pub invariant-loop-done : goal.invariant-loop-done
invariant-loop-done l = record {
  written : l.text ++ numbers_text (drop l.done (slice_index_or l.table l.line [])) ≡ l.initial.text ++ numbers_text (slice_index_or l.table l.line []);
  within : l.done ≤ l.width;
  room : length l.room ≡ 32;
}

abbrev pub decreases-loop-done : goal.decreases-loop-done
decreases-loop-done l = l.width - l.done
