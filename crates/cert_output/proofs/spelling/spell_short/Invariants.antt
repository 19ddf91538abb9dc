use Rattle.std.proofs.Common.{◌≡◌, ◌≤◌, ◌*◌, drop, length, map, pos}
use Rattle.line_format.specs.Numeral.{numbers_text}
use Rattle.cert_output.proofs.spelling.spell_short.Given as goal

abbrev pub invariant-loop-k : goal.invariant-loop-k
invariant-loop-k l = record {
  left : 41 * l.k ≤ l.start;
  within : l.start ≤ length l.room;
  inside : l.k ≤ length l.numbers;
  fields : drop l.start l.room ≡ numbers_text (map (λ n. pos n) (drop l.k l.numbers));
}

abbrev pub decreases-loop-k : goal.decreases-loop-k
decreases-loop-k l = l.k
