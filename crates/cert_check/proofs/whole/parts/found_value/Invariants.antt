use Rattle.std.proofs.Common.{◌≡◌, drop, map}
use Rattle.cert_grammar.specs.Certificate.{part_of}
use Rattle.cert_text.specs.Parts.{without_value}
use Rattle.cert_check.proofs.whole.parts.found_value.Given as goal

abbrev pub invariant-loop-part : goal.invariant-loop-part
invariant-loop-part l = part_of (map without_value (drop l.part-index l.parts)) l.j ≡ part_of (map without_value l.parts) l.j
