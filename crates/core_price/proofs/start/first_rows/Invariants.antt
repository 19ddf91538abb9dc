-- The rows and the choices of the singles that were passed.
use Rattle.std.proofs.Common.{◌≡◌, ◌++◌, drop, take, map}
use Rattle.core_price.specs.Rows.{single_bits}
use Rattle.core_price.proofs.start.first_rows.Given as goal

abbrev pub invariant-loop-i : goal.invariant-loop-i
invariant-loop-i l = record {
  rows : l.rows.items ++ single_bits l.i (drop l.i l.singles) ≡ single_bits 0 l.singles;
  choices : l.choices.items ≡ map (λ s. s.choice) (take l.i l.singles);
}
