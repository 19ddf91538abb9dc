use Rattle.std.proofs.Common.{◌≡◌, ◌≤◌, ◌<◌, ◌+◌, ◌*◌, ℕ, get_or, length}
use Rattle.choices.proofs.coarse.put_parts.Given as goal

abbrev pub invariant-loop-block : goal.invariant-loop-block
invariant-loop-block l = record {
  places : length l.mask ≡ length l.fn.mask;
  width : l.width ≡ length l.part;
  parts : (q i : ℕ) → l.from ≤ q → q < l.block → i < length l.part → get_or l.mask (q * length l.part + i) 0 ≡ get_or l.part i 0;
}
