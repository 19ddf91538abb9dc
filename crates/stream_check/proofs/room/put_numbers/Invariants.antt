use Rattle.std.proofs.Common.{◌≡◌, ◌<◌, ℕ, List, length, get_or}
use Rattle.cert_grammar.specs.CertText.{as_numbers}
use Rattle.stream_check.proofs.room.put_numbers.Given as goal

abbrev pub invariant-loop-k : goal.invariant-loop-k
invariant-loop-k l = record {
  long : length l.to ≡ length l.fn.to;
  put : (ns : List ℕ) → l.from ≡ as_numbers ns → (q : ℕ) → q < l.k → get_or l.to q 0 ≡ get_or ns q 0;
}
