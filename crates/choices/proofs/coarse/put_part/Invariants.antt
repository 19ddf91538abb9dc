use Rattle.std.proofs.Common.{◌≡◌, ◌<◌, ◌+◌, ℕ, get_or, length}
use Rattle.choices.proofs.coarse.put_part.Given as goal

abbrev pub invariant-loop-i : goal.invariant-loop-i
invariant-loop-i l = record {
  places : length l.mask ≡ length l.fn.mask;
  before : (n : ℕ) → n < l.from → get_or l.mask n 0 ≡ get_or l.fn.mask n 0;
  part : (s : ℕ) → s < l.i → get_or l.mask (l.from + s) 0 ≡ get_or l.part s 0;
}
